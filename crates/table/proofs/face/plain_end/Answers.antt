-- `table::face::plain_end` meets its contract: the place is the definition's.
use Rattle.table.specs.Face.{plain_end}
use Rattle.table.proofs.face.plain_end.Goals as goal

pub returns : goal.returns
unfolding plain_end
returns c = c.end_of.ensures
