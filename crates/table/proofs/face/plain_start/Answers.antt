-- `table::face::plain_start` meets its contract: the place is the definition's.
use Rattle.table.specs.Face.{plain_start}
use Rattle.table.proofs.face.plain_start.Goals as goal

pub returns : goal.returns
unfolding plain_start
returns c = c.first_arc.ensures
