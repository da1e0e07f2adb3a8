-- `registered_automata::ra_union` meets its contract.
use mathlib.Core.Path.{◌∙◌, ap}
use Rattle.registered_automata.specs.Results.{written_fields}
use Rattle.registered_automata.proofs.ra_union.Goals as goal

pub returns : goal.returns
returns c = record { answer = c.into.ensures ∙ ap written_fields c.union.ensures.answer; output = rw (← c.union.ensures.answer) c.union.ensures.output }
