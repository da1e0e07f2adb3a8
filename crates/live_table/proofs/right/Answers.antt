-- `live_table::right` meets its contract: the row's last set stands before the index.
use native.Mathlib.Omega.{arith}
use Rattle.live_table.proofs.RowNumbers.{numbered, right-ends}
use Rattle.live_table.proofs.right.Goals as goal

pub overflow_mul-t : goal.overflow_mul-t
overflow_mul-t c = omega (arith, right-ends c.requires.1 c.requires.0, c.requires.1.long)

pub overflow_sub-t : goal.overflow_sub-t
overflow_sub-t c = omega (arith, (numbered c.requires.1 c.requires.0).some_set)

pub overflow_add-t : goal.overflow_add-t
overflow_add-t c = omega (arith, right-ends c.requires.1 c.requires.0, c.requires.1.long)

pub load-requires : goal.load-requires
load-requires c = omega (arith, right-ends c.requires.1 c.requires.0, c.requires.1.long)
