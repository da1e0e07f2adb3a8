-- `table::judging::thin` meets its contract: by that of pruning, or nothing changes.
use native.Mathlib.Nat.{mul-le-mul_right}
use native.Mathlib.Omega.{arith}
use Rattle.table.proofs.judging.thin.Goals as goal

pub overflow_mul-letters : goal.overflow_mul-letters
overflow_mul-letters c = omega (arith, mul-le-mul_right c.args.block.count c.requires.0, c.requires.1.0)

pub prune-requires : goal.prune-requires
prune-requires c = (c.requires.1.1.0, (c.requires.1.1.1.0, c.requires.1.1.1.1 (omega arith)))
