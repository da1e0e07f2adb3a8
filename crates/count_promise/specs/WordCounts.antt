-- WordCounts: what counting answers of a file, a length and the number of working words (document 02, change 2).
use Rattle.std.specs.Prelude.{◌||◌, List, [], ◌∷◌, ℕ, ◌^◌, Err, None, Ok, Result, Some, ltb, length}
use Rattle.automata.specs.Automaton.{Automaton, letters}
use Rattle.automata.specs.Lengths.{accepted_many, rejected_many}
use Rattle.automata.specs.LiveSets.{live_sets}
use Rattle.automata.specs.Unfolding.{configurations, live_set}
use Rattle.format.specs.Decoding.{automaton_of}
use Rattle.format.specs.Refusals.{Refusals, fault_of, reason_of, refused, unless_refused}
use Rattle.file_fields.specs.declared.Automaton.TheVariants.{First}
use Rattle.file_fields.specs.declared.Reason.TheVariants.{LengthTooLarge, TooLittleMemoryLent, TooManyConfigurations, TooManyLiveSets}
use Rattle.file_fields.specs.declared.Refusal.{Refusal}
use Rattle.file_fields.specs.Parts.{automaton_number, number_of}
use Rattle.count_promise.specs.declared.WordCount.{WordCount}

-- ---- the refusals in their order, each a test with the reason and the automaton at fault; the first test that holds
-- refuses. L is the limit on configurations, P that on live sets, `longest` the greatest length, `most` the greatest number of words
-- of the automaton x and the length: 31, the length is above `longest`, or more words than `most` have it; 21, more than L
-- configurations; 23, words of all lengths have more than P live sets
unfoldable pub limit_refusals : (L P longest most : ℕ) → Automaton → (size : ℕ) → Refusals
limit_refusals L P longest most x size =
    (ltb longest size || ltb most (letters x ^ size), LengthTooLarge, None)
    ∷ (ltb L (length (configurations x L)), TooManyConfigurations, Some First)
    ∷ (ltb P (length (live_sets x L (live_set x L []) P)), TooManyLiveSets, None)
    ∷ []

-- of the call: 24, working memory under 8,192 words; the file's fault; and those above
unfoldable pub refusals : (L P longest most : ℕ) (file : List ℕ) (size words : ℕ) → Refusals
unfolding limit_refusals
refusals L P longest most file size words =
    (ltb words 8192, TooLittleMemoryLent, None)
    ∷ (ltb 0 (fault_of file), reason_of file, Some First)
    ∷ limit_refusals L P longest most (automaton_of file) size

-- ---- the answer
-- how many words of the length are accepted, and how many are not
abbrev pub counts_of : (L : ℕ) → Automaton → (size : ℕ) → Result WordCount Refusal
counts_of L x size = Ok (record { accepted = accepted_many x L size; rejected = rejected_many x L size })

-- the whole answer, by the limits
unfoldable pub word_count_within : (L P longest most : ℕ) (file : List ℕ) (size words : ℕ) → Result WordCount Refusal
unfolding refusals unless_refused
word_count_within L P longest most file size words = unless_refused refused (refusals L P longest most file size words) (counts_of L (automaton_of file) size)

-- the whole answer, at document 02's limits: the last is the largest number of 64 bits
unfoldable pub word_count_of : (file : List ℕ) (size words : ℕ) → Result WordCount Refusal
unfolding word_count_within
word_count_of file size words = word_count_within 256 512 64 18446744073709551615 file size words

-- ---- an answer as it is told: the number of the refusal and the automaton at fault, each 0 where there is none; the number of words
-- that are accepted and of those that are not, each 0 where counting is refused
pub record Told : Type 0 where
  pub number : ℕ
  pub at_fault : ℕ
  pub accepted : ℕ
  pub rejected : ℕ

-- what an answer tells
abbrev pub told : Result WordCount Refusal → Told
told (Ok n) = record { number = 0; at_fault = 0; accepted = n.accepted; rejected = n.rejected }
told (Err r) = record { number = number_of r.reason; at_fault = automaton_number r.automaton; accepted = 0; rejected = 0 }
