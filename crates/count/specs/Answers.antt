-- Answers: what is left of counting behind the refusals that are ruled out already.
use Rattle.std.specs.Prelude.{[], ◌∷◌, ℕ, None, Result, ltb, length}
use Rattle.automata.specs.Automaton.{Automaton}
use Rattle.automata.specs.LiveSets.{live_sets}
use Rattle.automata.specs.Unfolding.{live_set}
use Rattle.file_fields.specs.declared.Reason.TheVariants.{TooManyLiveSets}
use Rattle.file_fields.specs.declared.Refusal.{Refusal}
use Rattle.format.specs.Refusals.{refused, unless_refused}
use Rattle.count_promise.specs.WordCounts.{counts_of, limit_refusals}
use Rattle.count_promise.specs.declared.WordCount.{WordCount}

-- the answer for the automaton of a valid file: by its limits, else how many words are accepted and how many are not
unfoldable pub limits_answer : (L P longest most : ℕ) → Automaton → (size : ℕ) → Result WordCount Refusal
unfolding limit_refusals unless_refused
limits_answer L P longest most x size = unless_refused refused (limit_refusals L P longest most x size) (counts_of L x size)

-- the same where only 23 is left
unfoldable pub sets_answer : (L P : ℕ) → Automaton → (size : ℕ) → Result WordCount Refusal
unfolding unless_refused
sets_answer L P x size = unless_refused refused ((ltb P (length (live_sets x L (live_set x L []) P)), TooManyLiveSets, None) ∷ []) (counts_of L x size)
