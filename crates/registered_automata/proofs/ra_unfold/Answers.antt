-- `registered_automata::ra_unfold` meets its contract.
use mathlib.Core.Path.{◌∙◌, ap}
use Rattle.registered_automata.specs.Results.{written_fields}
use Rattle.registered_automata.proofs.ra_unfold.Goals as goal

pub returns : goal.returns
returns c = record { same = c.«unfold».ensures.same; answer = c.into.ensures ∙ ap written_fields c.«unfold».ensures.answer; output = rw (← c.«unfold».ensures.answer) c.«unfold».ensures.output }
