-- RangeAnswers: what is answered of a file, a word with ranges and the number of working words (document 02, change 7).
use Rattle.std.specs.Prelude.{Bool, false, not, true, ◌||◌, List, [], ◌∷◌, ℕ, Err, None, Ok, Result, Some, ltb, length}
use Rattle.automata.specs.Automaton.{Automaton, letters}
use Rattle.automata.specs.Lists.{any}
use Rattle.automata.specs.LiveSets.{accepts_set, behind, same_set}
use Rattle.automata.specs.Unfolding.{configurations, live_set}
use Rattle.fillings.specs.Fillings.{Range, behind_places, from_to, many_behind}
use Rattle.format.specs.Decoding.{automaton_of}
use Rattle.format.specs.Refusals.{Refusals, fault_of, reason_of, refused, unless_refused}
use Rattle.file_fields.specs.declared.Automaton.TheVariants.{First}
use Rattle.file_fields.specs.declared.Reason.TheVariants.{BadRanges, TooLittleMemoryLent, TooManyConfigurations, TooManyLiveSets}
use Rattle.file_fields.specs.declared.Refusal.{Refusal}
use Rattle.file_fields.specs.Parts.{automaton_number, number_of}
use Rattle.ranges_promise.specs.declared.Fillings.{Fillings}
use Rattle.ranges_promise.specs.declared.Fillings.TheVariants.{Always, Never, Sometimes}

-- ---- the word, two bytes for each place, low then high
-- its places; a byte left over is none
unfoldable pub ranges_of : List ℕ → List Range
ranges_of [] = []
ranges_of (low ∷ []) = []
ranges_of (low ∷ high ∷ s) = from_to low high ∷ ranges_of s

-- is a byte left over, a low above its high, or a high not below a?
unfoldable pub bad_ranges : (a : ℕ) → List ℕ → Bool
bad_ranges a [] = false
bad_ranges a (low ∷ []) = true
bad_ranges a (low ∷ high ∷ s) = ltb high low || (not (ltb high a) || bad_ranges a s)

-- ---- the live sets that fillings have
-- are there more than P behind one of the places?
unfoldable pub many_sets : (L P : ℕ) → Automaton → (bytes : List ℕ) → Bool
unfolding ranges_of many_behind same_set behind live_set
many_sets L P x bytes = many_behind same_set (behind x L) P (live_set x L [] ∷ []) (ranges_of bytes)

-- those behind all places
unfoldable pub filled_sets : (L : ℕ) → Automaton → (bytes : List ℕ) → List (List Bool)
unfolding ranges_of behind_places same_set behind live_set
filled_sets L x bytes = behind_places same_set (behind x L) (live_set x L [] ∷ []) (ranges_of bytes)

-- ---- the refusals in their order, each a test with the reason and the automaton at fault; the first test that holds
-- refuses. L is the limit on configurations, P that on live sets
-- of the automaton x and the word: 35, a byte is left over or a place is no range of letters; 21, more than L configurations; 23, more than P live sets behind one place
unfoldable pub limit_refusals : (L P : ℕ) → Automaton → (bytes : List ℕ) → Refusals
unfolding bad_ranges many_sets configurations
limit_refusals L P x bytes =
    (bad_ranges (letters x) bytes, BadRanges, None)
    ∷ (ltb L (length (configurations x L)), TooManyConfigurations, Some First)
    ∷ (many_sets L P x bytes, TooManyLiveSets, None)
    ∷ []

-- of the call: 24, working memory under 8,192 words; the file's fault; and those above
unfoldable pub refusals : (L P : ℕ) (file bytes : List ℕ) (words : ℕ) → Refusals
unfolding limit_refusals
refusals L P file bytes words =
    (ltb words 8192, TooLittleMemoryLent, None)
    ∷ (ltb 0 (fault_of file), reason_of file, Some First)
    ∷ limit_refusals L P (automaton_of file) bytes

-- ---- the answer
-- by whether some filling is accepted, and whether some filling is not
abbrev pub judged : (accepted rejected : Bool) → Fillings
judged true true = Sometimes
judged true false = Always
judged false rejected = Never

-- of the automaton x: a filling is accepted just if its live set is
unfoldable pub fillings_of : (L : ℕ) → Automaton → (bytes : List ℕ) → Fillings
unfolding filled_sets accepts_set any
fillings_of L x bytes = judged (any (accepts_set x L) (filled_sets L x bytes)) (any (λ S. not (accepts_set x L S)) (filled_sets L x bytes))

-- the whole answer, by the limits
unfoldable pub ranged_within : (L P : ℕ) (file bytes : List ℕ) (words : ℕ) → Result Fillings Refusal
unfolding refusals unless_refused fillings_of
ranged_within L P file bytes words = unless_refused refused (refusals L P file bytes words) (Ok (fillings_of L (automaton_of file) bytes))

-- the whole answer, at document 02's limits
unfoldable pub ranged_of : (file bytes : List ℕ) (words : ℕ) → Result Fillings Refusal
unfolding ranged_within
ranged_of file bytes words = ranged_within 256 512 file bytes words

-- ---- an answer as it is told: the number of the refusal and the automaton at fault, each 0 where there is none; which of the three it is,
-- none of them where the call is refused
pub record Told : Type 0 where
  pub number : ℕ
  pub at_fault : ℕ
  pub always : Bool
  pub sometimes : Bool
  pub never : Bool

-- what an answer tells
abbrev pub told : Result Fillings Refusal → Told
told (Ok Always) = record { number = 0; at_fault = 0; always = true; sometimes = false; never = false }
told (Ok Sometimes) = record { number = 0; at_fault = 0; always = false; sometimes = true; never = false }
told (Ok Never) = record { number = 0; at_fault = 0; always = false; sometimes = false; never = true }
told (Err r) = record { number = number_of r.reason; at_fault = automaton_number r.automaton; always = false; sometimes = false; never = false }
