-- FinalFlags: the final flags of a file and the numbers of its final states, as the loops meet them.
use mathlib.Core.Path.{◌∙◌, ◌≡◌, ap, sym}
use mathlib.Core.Logic.{◌≢◌}
use mathlib.Core.Bool.{Bool, false, true}
use mathlib.Core.List.{List, [], ◌∷◌, map}
use mathlib.Core.Option.{none}
use Prim.Native.Nat.{◌+◌, ◌-◌, ◌<◌, ◌≤◌, ℕ, suc}
use native.Mathlib.Numerals.{add-one}
use native.Mathlib.Omega.{arith}
use borrow.Author.Tests.{eq-eqb, ne_eqb}
use lib.ListN.{drop, drop_of_length-le, get_or, length, take, length-map}
use lib.Seq.{drop-cons}
use Rattle.automata.specs.Automaton.{Automaton, Arc}
use Rattle.automata.specs.Joins.{final_states, arc_from, clearing}
use Rattle.file_fields.specs.declared.Counts.{Counts}
use Rattle.std.specs.Prelude.{Ok}
use Rattle.format.specs.Decoding.{automaton_of, decoded, is_final}
use Rattle.format.specs.Encoding.{flag_byte}
use Rattle.file_fields.specs.Parts.{flag_bytes}
use Rattle.format.specs.Reading.{reading_of}
use Rattle.file_laws.proofs.Laws.{file-seen, flags-same, valid-decoded, valid-sizes}
use Rattle.file_writing.specs.Placing.{Appended}
use Rattle.file_writing.proofs.Laws.{Appended-length}

-- an arc from state number i, moved by s, to t, which writes 0 to the registers 1 to n - 1
abbrev pub returning : ℕ → ℕ → ℕ → ℕ → Arc
returning s t n i = arc_from (s + i) none t (clearing n)

module _ (flags : List ℕ) (i : ℕ) where
  -- the numbers of the final states from place i on
  abbrev pub final_from : List ℕ
  final_from = final_states i (map is_final (drop i flags))

  abbrev later : List ℕ
  later = final_states (i + 1) (map is_final (drop (i + 1) flags))

  pub final-here : i < length flags → get_or flags i 0 ≡ 1 → final_from ≡ i ∷ later
  unfolding final_states
  final-here h e = rw (drop-cons flags i 0 h, add-one i, eq-eqb (get_or flags i 0) 1 e)

  pub final-not : i < length flags → get_or flags i 0 ≢ 1 → final_from ≡ later
  unfolding final_states
  final-not h e = rw (drop-cons flags i 0 h, add-one i, ne_eqb (get_or flags i 0) 1 e)

  pub final-none : length flags ≤ i → final_from ≡ []
  unfolding final_states
  final-none h = rw (drop_of_length-le flags {i = i} h)

-- ---- the flags of a valid file
module _ (s : List ℕ) (c : Counts) (e : reading_of s ≡ Ok c) where
  pub valid-finals : (automaton_of s).finals ≡ map is_final (flag_bytes c s)
  unfolding decoded
  valid-finals = ap (λ (x : Automaton). x.finals) (valid-decoded s c e)

  pub valid-flags : map flag_byte (automaton_of s).finals ≡ flag_bytes c s
  valid-flags = ap (map flag_byte) valid-finals ∙ flags-same (flag_bytes c s) (file-seen s c e).flags

  -- how many letters, states and flags there are
  pub valid-lengths : (length (automaton_of s).alphabet ≡ c.letters) × (length (automaton_of s).finals ≡ c.states) × (length (map flag_byte (automaton_of s).finals) ≡ c.states)
  valid-lengths =
      let n = valid-sizes s c e in
      let f = ap (λ (d : Counts). d.states) n in
      (ap (λ (d : Counts). d.letters) n, f, length-map (automaton_of s).finals flag_byte ∙ f)

  -- where the flags end in an output
  pub flags-end : {at next : ℕ} {old out : List ℕ} → Appended at (map flag_byte (automaton_of s).finals) old out next → (next ≡ at + c.states) × (length out ≡ length old)
  flags-end w = (omega (arith, w.behind, valid-lengths.2), Appended-length w)

-- `&s[flags..flags + states]`
pub lent_flags : (c : Counts) (s : List ℕ) → take (12 + c.letters + c.states - (12 + c.letters)) (drop (12 + c.letters) s) ≡ flag_bytes c s
lent_flags c s = let e : 12 + c.letters + c.states - (12 + c.letters) ≡ c.states = omega arith in rw e

pub lent_finals : (s : List ℕ) (c : Counts) → reading_of s ≡ Ok c → (automaton_of s).finals ≡ map is_final (take (12 + c.letters + c.states - (12 + c.letters)) (drop (12 + c.letters) s))
lent_finals s c e = valid-finals s c e ∙ ap (map is_final) (sym (lent_flags c s))

-- no more final states than states
pub final-count : (i : ℕ) (l : List Bool) → length (final_states i l) ≤ length l
unfolding final_states
final-count i [] = omega arith
final-count i (true ∷ l) = omega (arith, final-count (suc i) l)
final-count i (false ∷ l) = omega (arith, final-count (suc i) l)
