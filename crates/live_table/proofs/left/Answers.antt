-- `live_table::left` meets its contract: the row's first set stands before the index.
use native.Mathlib.Omega.{arith}
use Rattle.live_table.proofs.RowNumbers.{left-ends}
use Rattle.live_table.proofs.left.Goals as goal

pub overflow_mul-t : goal.overflow_mul-t
overflow_mul-t c = omega (arith, left-ends c.requires.1 c.requires.0, c.requires.1.long)

pub load-requires : goal.load-requires
load-requires c = omega (arith, left-ends c.requires.1 c.requires.0, c.requires.1.long)
