-- `registered_automata::ra_intersect` meets its contract.
use mathlib.Core.Path.{◌∙◌, ap}
use Rattle.registered_automata.specs.Results.{written_fields}
use Rattle.registered_automata.proofs.ra_intersect.Goals as goal

pub returns : goal.returns
returns c = record { answer = c.into.ensures ∙ ap written_fields c.intersect.ensures.answer; output = rw (← c.intersect.ensures.answer) c.intersect.ensures.output }
