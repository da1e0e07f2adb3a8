-- `file_arc_writing::write_read` meets its contract.
use mathlib.Core.List.{[], ◌∷◌}
use Rattle.format.specs.Encoding.{ops_bytes}
use Rattle.file_writing.proofs.Laws.{stored}
use Rattle.file_arc_writing.proofs.write_read.Goals as goal

pub returns : goal.returns
unfolding ops_bytes
returns c = (stored (0 ∷ 0 ∷ []) c.args.out.now 0 c.requires).output
