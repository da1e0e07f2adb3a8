-- PairLaws: what reading two files answers, what is known of them where it answers their counts, and what is left of a call's refusals.
use mathlib.Core.Path.{◌≡◌, refl, sym, ap, ap₂, ◌∙◌}
use mathlib.Core.Bool.{Bool, cond, false, true}
use mathlib.Core.List.{List, ◌∷◌, ◌++◌}
use Prim.Native.Nat.{ℕ, ◌<◌, ◌≤◌}
use native.Mathlib.Omega.{arith}
use borrow.Author.Tests.{le-ltb, lt-ltb, ltb-false}
use lib.Dec.{eqb, ltb}
use lib.ListN.{length}
use Rattle.automata.specs.Automaton.{Automaton}
use Rattle.automata.specs.Letters.{keys}
use Rattle.automata.specs.Lists.{same_by}
use Rattle.automata.specs.Words.{SameLetters, same_letters}
use Rattle.automata.proofs.Laws.{same_letters-iff}
use Rattle.file_fields.specs.declared.Counts.{Counts}
use Rattle.file_fields.specs.declared.Fault.{Fault}
use Rattle.std.specs.Prelude.{Err, None, Ok, Option, Result, Some}
use Rattle.file_fields.specs.declared.Automaton.{Automaton as Blamed}
use Rattle.file_fields.specs.declared.Automaton.TheVariants.{First, Second}
use Rattle.file_fields.specs.declared.Reason.{Reason}
use Rattle.file_fields.specs.declared.Reason.TheVariants.{JoinedBeyondALimit}
use Rattle.file_fields.specs.declared.Refusal.{Refusal}
use Rattle.file_fields.specs.Parts.{counts_of, fault, letter_bytes}
use Rattle.format.specs.Reading.{reading_of}
use Rattle.format.specs.Refusals.{Refusals, fault_of, reason_of, refused as refusal, told_number, told_reason, unless_refused}
use Rattle.format.specs.Decoding.{automaton_of}
use Rattle.file_laws.proofs.Laws.{file-seen, has-fault, no_fault, valid-alphabet}
use Rattle.file_pair.specs.declared.Pair.{Pair}
use Rattle.file_pair.specs.Pair.{both_valid, files_of, letters_of, pair_refusals}

-- what it tells of them
abbrev the_pair : Pair → Result Pair Refusal → Pair
the_pair p (Ok q) = q
the_pair p (Err r) = p

-- the test says that the letter lists agree
pub agree_same : (x y : Automaton) → true ≡ same_letters x y → SameLetters x y
agree_same x y e = (same_letters-iff x y).0 (rw (← e) tt)

module _ (s t : List ℕ) where
  -- the first file at fault; the second; neither
  pub first-fault : {r : Reason} {place : ℕ} → reading_of s ≡ fault r place → files_of s t ≡ refusal r (Some First)
  unfolding files_of
  first-fault {r} p = rw (lt-ltb 0 (fault_of s) (has-fault s r p)) (ap (λ (a : Result Counts Fault). refusal (told_reason a) (Some First)) p)

  pub second-fault : {a : Counts} {r : Reason} {place : ℕ} → reading_of s ≡ Ok a → reading_of t ≡ fault r place → files_of s t ≡ refusal r (Some Second)
  unfolding files_of
  second-fault {r = r} p q = rw (le-ltb 0 (fault_of s) (omega (arith, ap told_number p)), lt-ltb 0 (fault_of t) (has-fault t r q)) (ap (λ (a : Result Counts Fault). refusal (told_reason a) (Some Second)) q)

  pub valid-files : {a b : Counts} → reading_of s ≡ Ok a → reading_of t ≡ Ok b → files_of s t ≡ both_valid (same_by eqb (keys (letter_bytes a s)) (keys (letter_bytes b t))) a b
  unfolding files_of
  valid-files {a} {b} p q =
      rw (le-ltb 0 (fault_of s) (omega (arith, ap told_number p)), le-ltb 0 (fault_of t) (omega (arith, ap told_number q)), valid-alphabet s a p, valid-alphabet t b q)
      (ap₂ (both_valid (same_by eqb (keys (letter_bytes a s)) (keys (letter_bytes b t)))) (file-seen s a p).counts (file-seen t b q).counts)

  -- ---- files that are to be joined or compared
  -- the counts of a file without a fault
  counted : (u : List ℕ) (a : Counts) → ltb 0 (fault_of u) ≡ false → counts_of u ≡ a → reading_of u ≡ Ok a
  counted u a p e = let f = no_fault u (omega (arith, ltb-false 0 (fault_of u) p)) in f.1 ∙ ap Ok (sym (file-seen u f.0 f.1).counts ∙ e)

  -- where it answers their counts both are valid, and the answer tells whether their letter lists agree
  pub files-valid : {p : Pair} → files_of s t ≡ Ok p → (reading_of s ≡ Ok p.first) × (reading_of t ≡ Ok p.second) × (p.agree ≡ same_letters (automaton_of s) (automaton_of t))
  unfolding files_of
  files-valid {p} e = go (ltb 0 (fault_of s)) refl (ltb 0 (fault_of t)) refl e
    where
      go : (u : Bool) → ltb 0 (fault_of s) ≡ u → (v : Bool) → ltb 0 (fault_of t) ≡ v → cond u (refusal (reason_of s) (Some First)) (cond v (refusal (reason_of t) (Some Second)) (both_valid (same_letters (automaton_of s) (automaton_of t)) (counts_of s) (counts_of t))) ≡ Ok p
          → (reading_of s ≡ Ok p.first) × (reading_of t ≡ Ok p.second) × (p.agree ≡ same_letters (automaton_of s) (automaton_of t))
      go true f v g e = let z : ◌≡◌ {A = ℕ} 0 1 = cc in absurd (omega arith)
      go false f true g e = let z : ◌≡◌ {A = ℕ} 0 1 = cc in absurd (omega arith)
      go false f false g e = let same = ap (the_pair p) e in (counted s p.first f (ap (λ (q : Pair). q.first) same), counted t p.second g (ap (λ (q : Pair). q.second) same), sym (ap (λ (q : Pair). q.agree) same))

  -- ---- a call's answer, by what the files are: their refusal; 11, more than 64 letters together; or what the refusals that are left say
  module _ {A : Type 0} (refused : Reason → Option Blamed → A) (left : Refusals) (answer : A) where
    abbrev behind : Refusals
    behind = (ltb 64 (length (letters_of s t)), JoinedBeyondALimit, None) ∷ left

    abbrev by_files : Result Pair Refusal → A
    by_files (Ok p) = unless_refused refused behind answer
    by_files (Err r) = refused r.reason r.automaton

    files-decide : unless_refused refused (pair_refusals s t ++ left) answer ≡ by_files (files_of s t)
    unfolding files_of pair_refusals
    files-decide = go (ltb 0 (fault_of s)) (ltb 0 (fault_of t))
      where
        go : (u v : Bool) → cond u (refused (reason_of s) (Some First)) (cond v (refused (reason_of t) (Some Second)) (unless_refused refused behind answer))
            ≡ by_files (cond u (refusal (reason_of s) (Some First)) (cond v (refusal (reason_of t) (Some Second)) (both_valid (same_letters (automaton_of s) (automaton_of t)) (counts_of s) (counts_of t))))
        go true v = refl
        go false true = refl
        go false false = refl

    pub files-refused : {r : Refusal} → files_of s t ≡ Err r → unless_refused refused (pair_refusals s t ++ left) answer ≡ refused r.reason r.automaton
    files-refused e = files-decide ∙ ap by_files e

    module _ {p : Pair} (e : files_of s t ≡ Ok p) where
      pub files-many : 64 < length (letters_of s t) → unless_refused refused (pair_refusals s t ++ left) answer ≡ refused JoinedBeyondALimit None
      unfolding unless_refused
      files-many h = files-decide ∙ ap by_files e ∙ rw (lt-ltb 64 (length (letters_of s t)) h)

      pub files-passed : length (letters_of s t) ≤ 64 → unless_refused refused (pair_refusals s t ++ left) answer ≡ unless_refused refused left answer
      unfolding unless_refused
      files-passed h = files-decide ∙ ap by_files e ∙ rw (le-ltb 64 (length (letters_of s t)) h)
