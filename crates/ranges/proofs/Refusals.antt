-- Refusals: the refusals of a word with ranges in their order, one test after the other, and what is answered where none holds.
use mathlib.Core.Path.{◌∙◌, ◌≡◌, ap}
use mathlib.Core.Bool.{Bool, false, not, true}
use mathlib.Core.List.{List}
use Prim.Native.Nat.{◌<◌, ◌≤◌, ℕ}
use native.Mathlib.Omega.{arith}
use borrow.Author.Tests.{le-ltb, lt-ltb}
use lib.ListN.{length}
use Rattle.automata.specs.Automaton.{Automaton, letters}
use Rattle.automata.specs.Lists.{any}
use Rattle.automata.specs.Live.{meets}
use Rattle.automata.specs.LiveSets.{accepts_set}
use Rattle.automata.specs.Unfolding.{configurations, final_set}
use Rattle.std.specs.Prelude.{None, Ok, Result, Some}
use Rattle.file_fields.specs.Parts.{fault}
use Rattle.file_fields.specs.declared.Counts.{Counts}
use Rattle.file_fields.specs.declared.Automaton.TheVariants.{First}
use Rattle.file_fields.specs.declared.Fault.{Fault}
use Rattle.file_fields.specs.declared.Reason.{Reason}
use Rattle.file_fields.specs.declared.Reason.TheVariants.{BadRanges, TooLittleMemoryLent, TooManyConfigurations, TooManyLiveSets}
use Rattle.format.specs.Decoding.{automaton_of}
use Rattle.format.specs.Reading.{reading_of}
use Rattle.format.specs.Refusals.{fault_of, refused, told_number, told_reason, unless_refused}
use Rattle.file_laws.proofs.Laws.{has-fault}
use Rattle.ranges_promise.specs.RangeAnswers.{bad_ranges, filled_sets, fillings_of, judged, limit_refusals, many_sets, ranged_of, ranged_within, refusals}
use Rattle.ranges_promise.specs.declared.Fillings.{Fillings}
use Rattle.ranges.specs.Answers.{limits_answer, sets_answer}

-- ---- of the call
module _ (file bytes : List ℕ) (words : ℕ) where
  pub call_short : words < 8192 → refused TooLittleMemoryLent None ≡ ranged_of file bytes words
  unfolding ranged_of ranged_within refusals unless_refused
  call_short h = rw (lt-ltb words 8192 h)

  pub call_fault : {r : Reason} {place : ℕ} → 8192 ≤ words → reading_of file ≡ fault r place → ranged_of file bytes words ≡ refused r (Some First)
  unfolding ranged_of ranged_within refusals unless_refused
  call_fault {r} enough e = rw (le-ltb words 8192 enough, lt-ltb 0 (fault_of file) (has-fault file r e)) (ap (λ (a : Result Counts Fault). refused {A = Fillings} (told_reason a) (Some First)) e)

  -- by any limits, which stay as they are while the tests are passed
  valid-within : (L P : ℕ) → 8192 ≤ words → fault_of file ≤ 0 → limits_answer L P (automaton_of file) bytes ≡ ranged_within L P file bytes words
  unfolding ranged_within refusals limits_answer unless_refused
  valid-within L P enough none = rw (le-ltb words 8192 enough, le-ltb 0 (fault_of file) none)

  pub call_valid : {c : Counts} → 8192 ≤ words → reading_of file ≡ Ok c → limits_answer 256 512 (automaton_of file) bytes ≡ ranged_of file bytes words
  unfolding ranged_of
  call_valid enough valid = valid-within 256 512 enough (omega (arith, ap told_number valid))

-- ---- of the automaton and the word, by its limits
module _ (L P : ℕ) (x : Automaton) (bytes : List ℕ) where
  pub limits_no_ranges : bad_ranges (letters x) bytes ≡ true → refused BadRanges None ≡ limits_answer L P x bytes
  unfolding limits_answer limit_refusals unless_refused
  limits_no_ranges bad = rw bad

  module _ (sound : bad_ranges (letters x) bytes ≡ false) where
    pub limits_beyond : L < length (configurations x L) → refused TooManyConfigurations (Some First) ≡ limits_answer L P x bytes
    unfolding limits_answer limit_refusals unless_refused
    limits_beyond h = rw (sound, lt-ltb L (length (configurations x L)) h)

    pub limits_passed : length (configurations x L) ≤ L → sets_answer L P x bytes ≡ limits_answer L P x bytes
    unfolding limits_answer sets_answer limit_refusals unless_refused
    limits_passed h = rw (sound, le-ltb L (length (configurations x L)) h)

  -- ---- of the live sets behind its places
  pub sets-beyond : many_sets L P x bytes ≡ true → refused TooManyLiveSets None ≡ sets_answer L P x bytes
  unfolding sets_answer unless_refused
  sets-beyond many = rw many

  -- those behind all of them are judged by the final configurations
  pub sets-judged : {finals : List Bool} {r : Fillings} → many_sets L P x bytes ≡ false → finals ≡ final_set x (configurations x L)
      → r ≡ judged (any (λ S. meets S finals) (filled_sets L x bytes)) (any (λ S. not (meets S finals)) (filled_sets L x bytes)) → Ok r ≡ sets_answer L P x bytes
  unfolding sets_answer unless_refused fillings_of accepts_set
  sets-judged few final e =
      ap Ok e ∙ ap (λ (F : List Bool). Ok (judged (any (λ S. meets S F) (filled_sets L x bytes)) (any (λ S. not (meets S F)) (filled_sets L x bytes)))) final ∙ rw few
