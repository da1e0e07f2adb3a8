-- `registered_automata::ra_accepts_ranges` meets its contract.
use mathlib.Core.Path.{◌∙◌, ap}
use Rattle.registered_automata.specs.Results.{ranged_fields}
use Rattle.registered_automata.proofs.ra_accepts_ranges.Goals as goal

pub returns : goal.returns
returns c = record { same = c.accepts_ranges.ensures.same; answer = c.into.ensures ∙ ap ranged_fields c.accepts_ranges.ensures.answer }
