-- `scanner::ra_accepts` meets its contract.
use mathlib.Core.Path.{◌∙◌, ap}
use Rattle.scanner.specs.Results.{membership_fields}
use Rattle.scanner.proofs.ra_accepts.Goals as goal

pub returns : goal.returns
returns c = record { same = c.accepts.ensures.same; answer = c.into.ensures ∙ ap membership_fields c.accepts.ensures.answer }
