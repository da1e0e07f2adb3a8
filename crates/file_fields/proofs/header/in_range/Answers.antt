-- Whether each count is in its range: the test itself.
use mathlib.Core.Path.{refl}
use Rattle.file_fields.proofs.header.in_range.Goals as goal

pub returns : goal.returns
returns c = refl
