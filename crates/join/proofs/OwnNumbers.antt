-- OwnNumbers: two files joined by their own numbers, with room for the letters of both: what a call answers and leaves in the output then,
-- where the lists agree, where it is refused, and where the letters are put in; whatever the join.
use mathlib.Core.Path.{◌∙◌, ◌≡◌, ap, refl, sym}
use mathlib.Core.Logic.{inl, inr}
use mathlib.Core.Bool.{Bool, cond, false, true}
use mathlib.Core.List.{List, ◌++◌}
use Prim.Native.Nat.{◌+◌, ◌-◌, ◌≤◌, ℕ}
use native.Mathlib.Omega.{arith}
use lib.ListN.{drop, length, take}
use Rattle.automata.specs.Automaton.{Automaton}
use Rattle.automata.specs.Words.{SameLetters, places}
use Rattle.file_fields.specs.declared.Counts.{Counts}
use Rattle.file_fields.specs.Parts.{counts_of}
use Rattle.format.specs.Decoding.{automaton_of}
use Rattle.format.specs.Encoding.{bytes_of}
use Rattle.format.specs.Limits.{Fits}
use Rattle.file_laws.proofs.Laws.{file-seen, lent_alphabet}
use Rattle.file_pair.specs.Lettered.{OverBoth, automaton_over}
use Rattle.std.specs.Prelude.{Err, Ok, Result}
use Rattle.file_fields.specs.declared.Refusal.{Refusal}
use Rattle.file_pair.specs.Pair.{Joinable, both_valid, files_of, letters_of}
use Rattle.file_pair.proofs.Laws.{agree_same, apart-over, files-valid}
use Rattle.file_writing.specs.Answers.{output_of}
use Rattle.join_parts.specs.Joining.{beyond, join_of, joined_of, written_of}
use Rattle.join_parts.specs.OwnNumbers.{Others, Standing, last_arcs, letters_put, roomy}
use Rattle.join_parts.proofs.Laws.{joined-both, over-same, own-ranges, own_room, put-alike, put-apart, put-length, standing, written-bytes}

-- the files, which can be joined
pub joinable : {s t : List ℕ} {agree : Bool} {a b : Counts} {n : ℕ} → files_of s t ≡ both_valid agree a b → n ≡ length (letters_of s t) → n ≤ 64 → Joinable a b s t
joinable {s} {t} valid many few = let v = files-valid s t valid in record { first = v.0; second = v.1; few = omega arith }

-- the same by the counts that their headers say
pub header-joinable : {s t : List ℕ} {agree : Bool} {a b : Counts} {n : ℕ} → files_of s t ≡ both_valid agree a b → n ≡ length (letters_of s t) → n ≤ 64 → Joinable (counts_of s) (counts_of t) s t
header-joinable {s} {t} {a = a} {b = b} valid many few = let v = files-valid s t valid in rw ((file-seen s a v.0).counts, (file-seen t b v.1).counts) (joinable valid many few)

-- the second's letters are lent, where the lists differ: up to where these end
pub others-lent : {agree : Bool} {a b : Counts} (s t : List ℕ) (end : ℕ) → files_of s t ≡ both_valid agree a b → end ≡ cond agree 12 (12 + b.letters) → Others s t (take (end - 12) (drop 12 t))
others-lent {agree = true} s t end valid e = let none : end - 12 ≡ 0 = omega arith in inl (agree_same (automaton_of s) (automaton_of t) (files-valid s t valid).2, rw none)
others-lent {agree = false} {b = b} s t end valid e = inr (lent_alphabet t b (files-valid s t valid).1 end e)

-- z is the join of two files by their own numbers, with the answer r, and the output, `old` before, is `out`
pub record ByOwn (join : Automaton → Automaton → Automaton) (s t : List ℕ) (agree : Bool) (a b : Counts) (n : ℕ) (z : Automaton) (of_second : Bool) (r : Result ℕ Refusal) (old out : List ℕ) : Type 0 where
  pub fits : (x y : Automaton) → Fits x → Fits y → SameLetters x y → beyond (join x y) ≡ false → Fits (join x y)
  pub valid : files_of s t ≡ both_valid agree a b
  pub many : n ≡ length (letters_of s t)
  pub few : n ≤ 64
  pub lists : z.alphabet ≡ (automaton_of s).alphabet
  pub ends : last_arcs of_second t ≤ length z.arcs
  pub puts : (one two all : List ℕ) → OverBoth a b s t one two all → letters_put (last_arcs of_second t) one two all z ≡ join (automaton_over one all s) (automaton_over two all t)
  pub answer : r ≡ written_of (join_of join s t) (length old)
  pub output : out ≡ output_of r (bytes_of (roomy n z)) old

module _ {join : Automaton → Automaton → Automaton} {s t : List ℕ} {agree : Bool} {a b : Counts} {n : ℕ} {z : Automaton} {of_second : Bool} {r : Result ℕ Refusal} {old out : List ℕ}
    (o : ByOwn join s t agree a b n z of_second r old out) where
  abbrev k : ℕ
  k = last_arcs of_second t

  abbrev all : List ℕ
  all = letters_of s t

  abbrev one : List ℕ
  one = places all (automaton_of s).alphabet

  abbrev two : List ℕ
  two = places all (automaton_of t).alphabet

  j : Joinable a b s t
  j = joinable o.valid o.many o.few

  pub answered : r ≡ joined_of join s t (length old)
  answered = o.answer ∙ sym (joined-both join s t (length old) o.valid j.few)

  -- the lists agree: nothing is put in
  pub left-alike : agree ≡ true → out ≡ output_of r (bytes_of (join_of join s t)) old
  left-alike e =
      let same = agree_same (automaton_of s) (automaton_of t) (sym e ∙ (files-valid s t o.valid).2) in
      o.output ∙ ap (λ (x : Automaton). output_of r (bytes_of x) old) (ap (λ (m : ℕ). roomy m z) o.many ∙ put-alike join z k j o.lists o.puts same)

  -- it is refused
  pub left-refused : {e : Refusal} → r ≡ Err e → out ≡ output_of r (bytes_of (join_of join s t)) old
  left-refused f = rw f (rw f at o.output)

  -- it is written: it stands in the output as putting in the letters asks
  module _ {size : ℕ} (e : r ≡ Ok size) where
    written : out ≡ bytes_of (roomy (length all) z) ++ drop (length (bytes_of (roomy (length all) z))) old
    written = rw (← o.many) (rw e at o.output)

    pub stands : Standing s t of_second out
    stands =
        let over = (apart-over j).lettered in
        let within = (written-bytes (join_of join s t) (length old) (sym o.answer ∙ e)).within in
        let ranges = own-ranges join z k j o.lists o.puts {n = length all} refl (o.fits _ _ over.fits₁ over.fits₂ (over-same one two all (automaton_of s) (automaton_of t)) within).ranges in
        rw written (standing s t of_second z size old (own_room join z k j o.lists o.puts refl) o.ends ranges)

    -- and then the joined file does
    pub left-apart : {new : List ℕ}
        → ((z : Automaton) (behind : List ℕ) → out ≡ bytes_of (roomy (length all) z) ++ behind → length z.alphabet ≤ length all → k ≤ length z.arcs → new ≡ bytes_of (letters_put k one two all z) ++ behind)
        → new ≡ output_of r (bytes_of (join_of join s t)) old
    left-apart put =
        let same = put-apart join z k j o.lists o.puts in
        let room = own_room join z k j o.lists o.puts refl in
        let long : length (bytes_of (roomy (length all) z)) ≡ length (bytes_of (join_of join s t)) = sym (put-length k (length all) one two all z refl room) ∙ ap (λ (x : Automaton). length (bytes_of x)) same in
        rw e (put z (drop (length (bytes_of (roomy (length all) z))) old) written room o.ends ∙ rw (same, long))
