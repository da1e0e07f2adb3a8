-- Whether the mark is MLB: the test itself, of the three bytes, which are there.
use mathlib.Core.Path.{refl}
use Rattle.file_fields.proofs.header.has_mark.Goals as goal

pub returns : goal.returns
returns c = refl
