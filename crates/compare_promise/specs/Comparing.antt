-- Comparing: what comparing answers of two files, the number of working words and the size of the buffer for the shown word, and what
-- it leaves in that buffer (document 01, 'Comparing' and the order of refusals; document 02, changes 1, 4 and 6). Words are lists of bytes.
-- The two automata are compared over the letters of both, so that a letter that one of them lacks leads it nowhere.
use Rattle.std.specs.Prelude.{Bool, None, Option, Some, false, true, ◌||◌, List, [], ◌∷◌, ◌++◌, map, ℕ, ltb, drop, get_or, length}
use Rattle.automata.specs.Automaton.{Automaton}
use Rattle.automata.specs.Pairs.{Verdict, different, pairs, same, verdict}
use Rattle.automata.specs.Unfolding.{configurations, plain_arcs}
use Rattle.relettering.specs.Relettering.{letters_of_both, over_both}
use Rattle.format.specs.Decoding.{automaton_of}
use Rattle.format.specs.Refusals.{Refusals, fault_of, reason_of, unless_refused}
use Rattle.file_fields.specs.declared.Automaton.{Automaton as Blamed}
use Rattle.file_fields.specs.declared.Automaton.TheVariants.{First, Second}
use Rattle.file_fields.specs.declared.Reason.TheVariants.{JoinedBeyondALimit, TooLittleMemoryLent, TooManyConfigurations, TooManyLiveSets, TooManyPlainArcs}
use Rattle.file_fields.specs.declared.Reason.{Reason}
use Rattle.file_fields.specs.Parts.{automaton_number, number_of}
use Rattle.compare_promise.specs.declared.Comparison.{Comparison}
use Rattle.compare_promise.specs.declared.Comparison.TheVariants.{Different, Refused, Same}

-- ---- the refusals in their order, each a test with the reason and the automaton at fault; the first test that holds
-- refuses
-- of the automaton x, which is this one of the call: 21, more than L configurations; 22, more than M plain arcs
unfoldable pub limit_refusals : (L M : ℕ) → Automaton → (whose : Option Blamed) → Refusals
limit_refusals L M x whose =
    (ltb L (length (configurations x L)), TooManyConfigurations, whose)
    ∷ (ltb M (length (plain_arcs x L)), TooManyPlainArcs, whose)
    ∷ []

-- of two automata: 23, more than P pairs
unfoldable pub count_refusals : (L P : ℕ) → Automaton → Automaton → Refusals
count_refusals L P x y = (ltb P (length (pairs x y L P)), TooManyLiveSets, None) ∷ []

-- because of what the tables hold: 21 and 22 of the first, then of the second; 23
unfoldable pub table_refusals : (L M P : ℕ) → Automaton → Automaton → Refusals
unfolding limit_refusals count_refusals
table_refusals L M P x y = limit_refusals L M x (Some First) ++ limit_refusals L M y (Some Second) ++ count_refusals L P x y

-- of the call: 24, working memory under 8,192 words or a buffer under 512 bytes; the first file's fault; the second's; 11, more than 64
-- letters together; and those above
unfoldable pub refusals : (L M P : ℕ) (first second : List ℕ) (words buffer : ℕ) → Refusals
unfolding table_refusals
refusals L M P first second words buffer =
    (ltb words 8192 || ltb buffer 512, TooLittleMemoryLent, None)
    ∷ (ltb 0 (fault_of first), reason_of first, Some First)
    ∷ (ltb 0 (fault_of second), reason_of second, Some Second)
    ∷ (ltb 64 (length (letters_of_both (automaton_of first) (automaton_of second))), JoinedBeyondALimit, None)
    ∷ over_both (table_refusals L M P) (automaton_of first) (automaton_of second)

-- ---- the answer
-- a refusal
abbrev pub refused : Reason → Option Blamed → Comparison
refused reason automaton = Refused (record { reason = reason; automaton = automaton })

-- that of a verdict, whose word it tells by its length
abbrev pub answer_of : Verdict → Comparison
answer_of (same n) = Same n
answer_of (different n taker v) = Different n taker (length v)

-- the word of a verdict in the bytes of the letters; none where there is no difference
abbrev pub bytes_in : (alphabet : List ℕ) → Verdict → List ℕ
bytes_in alphabet (same n) = []
bytes_in alphabet (different n taker v) = map (λ (l : ℕ). get_or alphabet l 0) v

-- the verdict on the automata of two files, at document 01's limits
unfoldable pub verdict_of : (first second : List ℕ) → Verdict
verdict_of first second = over_both (λ x y. verdict x y 256 512) (automaton_of first) (automaton_of second)

-- the whole answer
unfoldable pub comparison_of : (first second : List ℕ) (words buffer : ℕ) → Comparison
unfolding refusals unless_refused verdict_of
comparison_of first second words buffer = unless_refused refused (refusals 256 2048 512 first second words buffer) (answer_of (verdict_of first second))

-- the word that is shown, in the bytes of the joined letter list
unfoldable pub shown_word : (first second : List ℕ) → List ℕ
unfolding verdict_of
shown_word first second = bytes_in (letters_of_both (automaton_of first) (automaton_of second)) (verdict_of first second)

-- what stands in the buffer afterwards: the shown word and then what was lent behind it; where no word is shown, what was lent
abbrev pub buffer_of : Comparison → (word old : List ℕ) → List ℕ
buffer_of (Same n) word old = old
buffer_of (Different n taker size) word old = word ++ drop (length word) old
buffer_of (Refused r) word old = old

-- ---- an answer as document 01 tells it: the number of the refusal and the automaton at fault, each 0 where there is none; same or
-- different; the number of pairs; the automaton that accepts the shown word and the word's length, each 0 where none is shown
pub record Told : Type 0 where
  pub number : ℕ
  pub at_fault : ℕ
  pub same : Bool
  pub different : Bool
  pub pairs : ℕ
  pub taker : ℕ
  pub size : ℕ

-- what an answer tells
abbrev pub told : Comparison → Told
told (Same n) = record { number = 0; at_fault = 0; same = true; different = false; pairs = n; taker = 0; size = 0 }
told (Different n taker size) = record { number = 0; at_fault = 0; same = false; different = true; pairs = n; taker = taker; size = size }
told (Refused r) = record { number = number_of r.reason; at_fault = automaton_number r.automaton; same = false; different = false; pairs = 0; taker = 0; size = 0 }
