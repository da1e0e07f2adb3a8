-- `registered_automata::ra_concatenate` meets its contract.
use mathlib.Core.Path.{◌∙◌, ap}
use Rattle.registered_automata.specs.Results.{written_fields}
use Rattle.registered_automata.proofs.ra_concatenate.Goals as goal

pub returns : goal.returns
returns c = record { answer = c.into.ensures ∙ ap written_fields c.concatenate.ensures.answer; output = rw (← c.concatenate.ensures.answer) c.concatenate.ensures.output }
