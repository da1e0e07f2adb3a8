-- `file_writing::parts::write_byte` meets its contract.
use mathlib.Core.List.{[], ◌∷◌}
use Rattle.file_writing.proofs.Placed.{stored}
use Rattle.file_writing.proofs.parts.write_byte.Goals as goal

pub returns : goal.returns
returns c = stored (c.args.byte ∷ []) c.args.out.now c.args.at c.requires
