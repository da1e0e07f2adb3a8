-- Refusals: the refusals of counting in their order, one test after the other, and the two numbers.
use mathlib.Core.Path.{◌≡◌, ◌∙◌, ap, ap₂}
use mathlib.Core.List.{List, []}
use Prim.Native.Nat.{◌-◌, ◌^◌, ◌<◌, ◌≤◌, ℕ}
use native.Mathlib.Omega.{arith}
use borrow.Author.Tests.{le-ltb, lt-ltb}
use lib.ListN.{length}
use Rattle.automata.specs.Automaton.{Automaton, letters}
use Rattle.automata.specs.Lengths.{accepted_many, rejected_many}
use Rattle.automata.specs.LiveSets.{live_sets}
use Rattle.automata.specs.Unfolding.{configurations, live_set}
use Rattle.automata.proofs.Laws.{both-many}
use Rattle.std.specs.Prelude.{None, Ok, Result, Some}
use Rattle.file_fields.specs.Parts.{fault}
use Rattle.file_fields.specs.declared.Counts.{Counts}
use Rattle.file_fields.specs.declared.Automaton.TheVariants.{First}
use Rattle.file_fields.specs.declared.Fault.{Fault}
use Rattle.file_fields.specs.declared.Reason.{Reason}
use Rattle.file_fields.specs.declared.Reason.TheVariants.{LengthTooLarge, TooLittleMemoryLent, TooManyConfigurations, TooManyLiveSets}
use Rattle.file_fields.specs.declared.Refusal.{Refusal}
use Rattle.format.specs.Decoding.{automaton_of}
use Rattle.format.specs.Reading.{reading_of}
use Rattle.format.specs.Refusals.{fault_of, refused, told_number, told_reason, unless_refused}
use Rattle.file_laws.proofs.Laws.{has-fault}
use Rattle.count_promise.specs.WordCounts.{limit_refusals, refusals, word_count_of, word_count_within}
use Rattle.count_promise.specs.declared.WordCount.{WordCount}
use Rattle.count.specs.Answers.{limits_answer, sets_answer}

-- ---- of the call
module _ (file : List ℕ) (size words : ℕ) where
  pub call_short : words < 8192 → refused TooLittleMemoryLent None ≡ word_count_of file size words
  unfolding word_count_of word_count_within refusals unless_refused
  call_short h = rw (lt-ltb words 8192 h)

  pub call_fault : {r : Reason} {place : ℕ} → 8192 ≤ words → reading_of file ≡ fault r place → word_count_of file size words ≡ refused r (Some First)
  unfolding word_count_of word_count_within refusals unless_refused
  call_fault {r} enough e = rw (le-ltb words 8192 enough, lt-ltb 0 (fault_of file) (has-fault file r e)) (ap (λ (a : Result Counts Fault). refused {A = WordCount} (told_reason a) (Some First)) e)

  pub call_valid : {c : Counts} → 8192 ≤ words → reading_of file ≡ Ok c → limits_answer 256 512 64 18446744073709551615 (automaton_of file) size ≡ word_count_of file size words
  unfolding word_count_of word_count_within refusals limits_answer unless_refused
  call_valid enough valid = let none : fault_of file ≤ 0 = omega (arith, ap told_number valid) in rw (le-ltb words 8192 enough, le-ltb 0 (fault_of file) none)

-- ---- of the automaton, by its limits
module _ (L P longest most : ℕ) (x : Automaton) (size : ℕ) where
  pub limits_long : longest < size → refused LengthTooLarge None ≡ limits_answer L P longest most x size
  unfolding limits_answer limit_refusals unless_refused
  limits_long h = rw (lt-ltb longest size h)

  module _ (short : size ≤ longest) where
    pub limits_over : most < letters x ^ size → refused LengthTooLarge None ≡ limits_answer L P longest most x size
    unfolding limits_answer limit_refusals unless_refused
    limits_over h = rw (le-ltb longest size short, lt-ltb most (letters x ^ size) h)

    module _ (fits : letters x ^ size ≤ most) where
      pub limits_beyond : L < length (configurations x L) → refused TooManyConfigurations (Some First) ≡ limits_answer L P longest most x size
      unfolding limits_answer limit_refusals unless_refused
      limits_beyond h = rw (le-ltb longest size short, le-ltb most (letters x ^ size) fits, lt-ltb L (length (configurations x L)) h)

      pub limits_passed : length (configurations x L) ≤ L → sets_answer L P x size ≡ limits_answer L P longest most x size
      unfolding limits_answer sets_answer limit_refusals unless_refused
      limits_passed h = rw (le-ltb longest size short, le-ltb most (letters x ^ size) fits, le-ltb L (length (configurations x L)) h)

-- ---- of its live sets
-- so many are accepted, and so many are not
abbrev counted : (accepted rejected : ℕ) → Result WordCount Refusal
counted accepted rejected = Ok (record { accepted = accepted; rejected = rejected })

module _ (L P : ℕ) (x : Automaton) (size : ℕ) where
  pub sets-beyond : P < length (live_sets x L (live_set x L []) P) → refused TooManyLiveSets None ≡ sets_answer L P x size
  unfolding sets_answer unless_refused
  sets-beyond h = rw (lt-ltb P (length (live_sets x L (live_set x L []) P)) h)

  -- those that are not accepted are the rest of all words
  pub sets-counted : {total accepted : ℕ} → length (live_sets x L (live_set x L []) P) ≤ P → accepted ≡ accepted_many x L size → total ≡ letters x ^ size → counted accepted (total - accepted) ≡ sets_answer L P x size
  unfolding sets_answer unless_refused
  sets-counted {total} {accepted} h e t =
      let r : total - accepted ≡ rejected_many x L size = omega (arith, e, t, both-many x L size) in
      ap₂ counted e r ∙ rw (le-ltb P (length (live_sets x L (live_set x L []) P)) h)
