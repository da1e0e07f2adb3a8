-- Examples: the file of document 01's T, whose letters c, e and m have the numbers 0, 1 and 2, with some words, computed: each of the three
-- answers, and what is refused at each limit and what is not. T accepts c or e, any number of m, and the first letter again.
use mathlib.Core.Path.{◌≡◌, refl}
use mathlib.Core.List.{List, [], ◌∷◌, map}
use Prim.Native.Nat.{ℕ}
use Rattle.automata.specs.Unfolding.{configurations, live_set}
use Rattle.format.specs.Decoding.{automaton_of}
use Rattle.format.specs.Reading.{reading_of}
use Rattle.file_laws.specs.Examples.{file_t}
use Rattle.ranges_promise.specs.RangeAnswers.{ranged_of, ranged_within}
use Rattle.ranges_promise.specs.declared.Fillings.{Fillings}
use Rattle.ranges_promise.specs.declared.Fillings.TheVariants.{Always, Never, Sometimes}
use Rattle.std.specs.Prelude.{None, Ok, Result, Some}
use Rattle.file_fields.specs.declared.Automaton.TheVariants.{First}
use Rattle.file_fields.specs.declared.Reason.TheVariants.{BadRanges, EndsInsideAField, TooLittleMemoryLent, TooManyConfigurations, TooManyLiveSets}
use Rattle.file_fields.specs.declared.Refusal.{Refusal}
use Rattle.format.specs.Refusals.{refused}

-- at document 02's limits: cmc is accepted and cec is not
pub sometimes-T : ranged_of file_t (0 ∷ 0 ∷ 1 ∷ 2 ∷ 0 ∷ 0 ∷ []) 8192 ≡ Ok Sometimes
unfolding ranged_of reading_of automaton_of configurations live_set
sometimes-T = refl

-- the word cmc; c, one of e and m, and c; one of c and e, then m, and one of c and e; cee; m and any letter; no places
abbrev judged_words : List (List ℕ)
judged_words =
    (0 ∷ 0 ∷ 2 ∷ 2 ∷ 0 ∷ 0 ∷ [])
    ∷ (0 ∷ 0 ∷ 1 ∷ 2 ∷ 0 ∷ 0 ∷ [])
    ∷ (0 ∷ 1 ∷ 2 ∷ 2 ∷ 0 ∷ 1 ∷ [])
    ∷ (0 ∷ 0 ∷ 1 ∷ 1 ∷ 1 ∷ 1 ∷ [])
    ∷ (2 ∷ 2 ∷ 0 ∷ 2 ∷ [])
    ∷ []
    ∷ []

pub judged-T : map (λ bytes. ranged_within 5 5 file_t bytes 8192) judged_words ≡ Ok Always ∷ Ok Sometimes ∷ Ok Sometimes ∷ Ok Never ∷ Ok Never ∷ Ok Never ∷ []
unfolding ranged_within reading_of automaton_of configurations live_set
judged-T = refl

-- any two letters
abbrev any_two : List ℕ
any_two = 0 ∷ 2 ∷ 0 ∷ 2 ∷ []

-- T has 5 configurations, and any two letters have 3 live sets behind the first place and 5 behind both: at these limits the word is judged, and
-- at one less of each it is refused. A byte is left over; a low is above its high; a high is not a letter
abbrev limited : List (Result Fillings Refusal)
limited =
    ranged_within 5 5 file_t any_two 8192
    ∷ ranged_within 5 5 file_t any_two 8191
    ∷ ranged_within 5 5 [] any_two 8192
    ∷ ranged_within 5 5 file_t (0 ∷ 2 ∷ 0 ∷ []) 8192
    ∷ ranged_within 5 5 file_t (0 ∷ 2 ∷ 1 ∷ 0 ∷ []) 8192
    ∷ ranged_within 5 5 file_t (0 ∷ 2 ∷ 0 ∷ 3 ∷ []) 8192
    ∷ ranged_within 4 5 file_t any_two 8192
    ∷ ranged_within 5 4 file_t any_two 8192
    ∷ []

pub refused-T : limited ≡ Ok Sometimes ∷ refused TooLittleMemoryLent None ∷ refused EndsInsideAField (Some First) ∷ refused BadRanges None ∷ refused BadRanges None ∷ refused BadRanges None ∷ refused TooManyConfigurations (Some First) ∷ refused TooManyLiveSets None ∷ []
unfolding ranged_within reading_of automaton_of configurations live_set
refused-T = refl

-- each place for itself: 3 live sets behind each of two places are no more than 3, and 3 behind the first are more than 2, though there are 2
-- behind both
pub places-T : ranged_within 5 3 file_t (0 ∷ 2 ∷ 2 ∷ 2 ∷ []) 8192 ∷ ranged_within 5 2 file_t (0 ∷ 2 ∷ 0 ∷ 0 ∷ []) 8192 ∷ [] ≡ Ok Never ∷ refused TooManyLiveSets None ∷ []
unfolding ranged_within reading_of automaton_of configurations live_set
places-T = refl

-- the order: of the refusals whose conditions hold the first is told. With an empty file 24, the fault and 35; then 35, 21 and 23 of T
abbrev in_order : List (Result Fillings Refusal)
in_order =
    ranged_within 4 4 [] (3 ∷ []) 8191
    ∷ ranged_within 4 4 [] (3 ∷ []) 8192
    ∷ ranged_within 4 4 file_t (0 ∷ 2 ∷ 0 ∷ 2 ∷ 3 ∷ []) 8192
    ∷ ranged_within 4 4 file_t any_two 8192
    ∷ ranged_within 5 4 file_t any_two 8192
    ∷ []

pub ordered-T : in_order ≡ refused TooLittleMemoryLent None ∷ refused EndsInsideAField (Some First) ∷ refused BadRanges None ∷ refused TooManyConfigurations (Some First) ∷ refused TooManyLiveSets None ∷ []
unfolding ranged_within reading_of automaton_of configurations live_set
ordered-T = refl
