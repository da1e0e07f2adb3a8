-- `registered_automata::ra_close` meets its contract.
use mathlib.Core.Path.{◌∙◌, ap}
use Rattle.registered_automata.specs.Results.{written_fields}
use Rattle.registered_automata.proofs.ra_close.Goals as goal

pub returns : goal.returns
returns c = record { answer = c.into.ensures ∙ ap written_fields c.close.ensures.answer; output = rw (← c.close.ensures.answer) c.close.ensures.output }
