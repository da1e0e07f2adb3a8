-- Answers: what is left of the answer behind the refusals that are ruled out already.
use Rattle.std.specs.Prelude.{List, [], ◌∷◌, ℕ, None, Ok, Result}
use Rattle.automata.specs.Automaton.{Automaton}
use Rattle.file_fields.specs.declared.Reason.TheVariants.{TooManyLiveSets}
use Rattle.file_fields.specs.declared.Refusal.{Refusal}
use Rattle.format.specs.Refusals.{refused, unless_refused}
use Rattle.ranges_promise.specs.RangeAnswers.{fillings_of, limit_refusals, many_sets}
use Rattle.ranges_promise.specs.declared.Fillings.{Fillings}

-- the answer for the automaton of a valid file: by its limits, else of the fillings
unfoldable pub limits_answer : (L P : ℕ) → Automaton → (bytes : List ℕ) → Result Fillings Refusal
unfolding limit_refusals unless_refused
limits_answer L P x bytes = unless_refused refused (limit_refusals L P x bytes) (Ok (fillings_of L x bytes))

-- the same where only 23 is left
unfoldable pub sets_answer : (L P : ℕ) → Automaton → (bytes : List ℕ) → Result Fillings Refusal
unfolding unless_refused
sets_answer L P x bytes = unless_refused refused ((many_sets L P x bytes, TooManyLiveSets, None) ∷ []) (Ok (fillings_of L x bytes))
