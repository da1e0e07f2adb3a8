-- `scanner::ra_read` meets its contract.
use mathlib.Core.Path.{◌∙◌, ap}
use Rattle.scanner.specs.Results.{reading_fields}
use Rattle.scanner.proofs.ra_read.Goals as goal

pub returns : goal.returns
returns c = c.into.ensures ∙ ap reading_fields c.read.ensures
