-- BothFlags: the final flags of an intersection, as the loop over the first file's flags meets them.
use mathlib.Core.Path.{◌≡◌, ◌∙◌, ap, ap₂, refl}
use mathlib.Core.Logic.{◌≢◌}
use mathlib.Core.Bool.{Bool, false, true, ◌&&◌}
use mathlib.Core.List.{List, [], ◌∷◌, ◌++◌, map}
use Prim.Native.Nat.{ℕ, suc, ◌+◌, ◌*◌, ◌<◌, ◌≤◌}
use native.Mathlib.Nat.{suc-mul, zero-mul}
use native.Mathlib.Numerals.{add-one}
use native.Mathlib.Omega.{arith}
use borrow.Author.Tests.{eq-eqb, ne_eqb}
use lib.ListN.{drop, drop_of_length-le, get_or, length, length-append, length-map, replicate}
use lib.Seq.{drop-cons, get_or-drop, get_or-take}
use Rattle.automata.specs.Joins.{both_final}
use Rattle.automata.proofs.Laws.{map-append}
use Rattle.file_fields.specs.declared.Counts.{Counts}
use Rattle.format.specs.Decoding.{is_final}
use Rattle.format.specs.Encoding.{flag_byte}
use Rattle.file_fields.specs.Parts.{flag_bytes}

-- beside a final state, the flags are those of the other; beside another, 00
final-row : (F : List Bool) → map (λ (y : Bool). true && y) F ≡ F
final-row [] = refl
final-row (y ∷ F) = ap (λ (l : List Bool). y ∷ l) (final-row F)

zero_row : (F : List Bool) → map flag_byte (map (λ (y : Bool). false && y) F) ≡ replicate (length F) 0
zero_row [] = refl
zero_row (y ∷ F) = ap (λ (l : List ℕ). 0 ∷ l) (zero_row F)

pub both-length : (S F : List Bool) → length (both_final S F) ≡ length S * length F
unfolding both_final
both-length [] F = omega (arith, zero-mul (length F))
both-length (x ∷ S) F = length-append (map (λ (y : Bool). x && y) F) (both_final S F) ∙ omega (arith, length-map F (λ (y : Bool). x && y), both-length S F, suc-mul (length S) (length F))

pub flags-length : (S F : List Bool) {m n : ℕ} → length S ≡ m → length F ≡ n → length (map flag_byte (both_final S F)) ≡ m * n
flags-length S F p q = length-map (both_final S F) flag_byte ∙ both-length S F ∙ ap₂ (λ (m n : ℕ). m * n) p q

module _ (flags : List ℕ) (F : List Bool) where
  -- the flags of the intersection from the first's state i on
  abbrev pub flags_from : ℕ → List ℕ
  flags_from i = map flag_byte (both_final (map is_final (drop i flags)) F)

  pub flags-final : (i : ℕ) → i < length flags → get_or flags i 0 ≡ 1 → flags_from i ≡ map flag_byte F ++ flags_from (i + 1)
  unfolding both_final
  flags-final i h e =
      let rest = both_final (map is_final (drop (suc i) flags)) F in
      rw (drop-cons flags i 0 h, add-one i, eq-eqb (get_or flags i 0) 1 e) (map-append flag_byte (map (λ (y : Bool). true && y) F) rest ∙ ap (λ (l : List Bool). map flag_byte l ++ map flag_byte rest) (final-row F))

  pub flags-other : (i : ℕ) → i < length flags → get_or flags i 0 ≢ 1 → flags_from i ≡ replicate (length F) 0 ++ flags_from (i + 1)
  unfolding both_final
  flags-other i h e =
      let rest = both_final (map is_final (drop (suc i) flags)) F in
      rw (drop-cons flags i 0 h, add-one i, ne_eqb (get_or flags i 0) 1 e) (map-append flag_byte (map (λ (y : Bool). false && y) F) rest ∙ ap (λ (l : List ℕ). l ++ map flag_byte rest) (zero_row F))

  pub flags-none : (i : ℕ) → length flags ≤ i → flags_from i ≡ []
  unfolding both_final
  flags-none i h = rw (drop_of_length-le flags {i = i} h)

-- the flag of a state, in the file
pub flag_at : (c : Counts) (s : List ℕ) (i : ℕ) → i < c.states → get_or (flag_bytes c s) i 0 ≡ get_or s (12 + c.letters + i) 0
flag_at c s i h = get_or-take c.states (drop (12 + c.letters) s) i 0 h ∙ get_or-drop (12 + c.letters) s i 0
