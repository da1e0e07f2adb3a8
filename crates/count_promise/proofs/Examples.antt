-- Examples: the file of document 01's T at length 3, computed: document 02's numbers, and what is refused at each limit and what is not.
use mathlib.Core.Path.{◌≡◌, refl}
use mathlib.Core.List.{List, [], ◌∷◌}
use Rattle.automata.specs.Lengths.{accepted_many, rejected_many}
use Rattle.automata.specs.LiveSets.{live_sets}
use Rattle.automata.specs.Unfolding.{configurations, live_set}
use Rattle.format.specs.Decoding.{automaton_of}
use Rattle.format.specs.Reading.{reading_of}
use Rattle.file_laws.specs.Examples.{file_t}
use Rattle.count_promise.specs.WordCounts.{word_count_of, word_count_within}
use Rattle.count_promise.specs.declared.WordCount.{WordCount}
use Rattle.std.specs.Prelude.{None, Ok, Result, Some}
use Rattle.file_fields.specs.declared.Automaton.TheVariants.{First}
use Rattle.file_fields.specs.declared.Reason.TheVariants.{EndsInsideAField, LengthTooLarge, TooLittleMemoryLent, TooManyConfigurations, TooManyLiveSets}
use Rattle.file_fields.specs.declared.Refusal.{Refusal}
use Rattle.format.specs.Refusals.{refused}

-- of the 27 words of 3 letters 2 are accepted
pub counted-T : word_count_of file_t 3 8192 ≡ Ok (record { accepted = 2; rejected = 25 })
unfolding word_count_of reading_of automaton_of configurations live_sets live_set accepted_many rejected_many
counted-T = refl

-- T has 5 configurations and 6 live sets: at these limits it is counted, and at one less of each it is refused
abbrev limited : List (Result WordCount Refusal)
limited =
    word_count_within 5 6 3 27 file_t 3 8192
    ∷ word_count_within 5 6 3 27 file_t 3 8191
    ∷ word_count_within 5 6 3 27 [] 3 8192
    ∷ word_count_within 5 6 2 27 file_t 3 8192
    ∷ word_count_within 5 6 3 26 file_t 3 8192
    ∷ word_count_within 4 6 3 27 file_t 3 8192
    ∷ word_count_within 5 5 3 27 file_t 3 8192
    ∷ []

pub refused-T : limited ≡ Ok (record { accepted = 2; rejected = 25 }) ∷ refused TooLittleMemoryLent None ∷ refused EndsInsideAField (Some First) ∷ refused LengthTooLarge None ∷ refused LengthTooLarge None ∷ refused TooManyConfigurations (Some First) ∷ refused TooManyLiveSets None ∷ []
unfolding word_count_within reading_of automaton_of configurations live_sets live_set accepted_many rejected_many
refused-T = refl
