-- `registered_automata::ra_compare` meets its contract.
use mathlib.Core.Path.{◌∙◌, ap}
use Rattle.registered_automata.specs.Results.{comparison_fields}
use Rattle.registered_automata.proofs.ra_compare.Goals as goal

pub returns : goal.returns
returns c = record { same = c.compare.ensures.same; answer = c.into.ensures ∙ ap comparison_fields c.compare.ensures.answer; shown = rw (← c.compare.ensures.answer) c.compare.ensures.shown }
