-- `join_closure::return_size` meets its contract.
use mathlib.Core.Path.{ap}
use Prim.Native.Nat.{◌-◌}
use native.Mathlib.Omega.{arith}
use lib.ListN.{length}
use Rattle.file_arc_writing.proofs.Laws.{cleared-count, clearing-few, clearing-more}
use Rattle.join_closure.proofs.return_size.Goals as goal

pub returns-then-n-lt2 : goal.returns-then-n-lt2
returns-then-n-lt2 c = (omega (arith, ap length (clearing-few c.args.n c.if-n-lt2.true)), omega arith)

pub returns-else-n-lt2 : goal.returns-else-n-lt2
returns-else-n-lt2 c = (omega (arith, ap length (clearing-more c.args.n c.if-n-lt2.false), cleared-count 1 (c.args.n - 1)), omega arith)
