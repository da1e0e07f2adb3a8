-- `table_sets::end_of` meets its contract: the test is the definition's.
use borrow.Author.Tests.{le-ltb, lt-ltb}
use Prim.Native.Nat.{◌+◌}
use Rattle.table_sets.specs.Stepping.{end_at}
use Rattle.table_sets.proofs.end_of.Goals as goal

pub returns-then-c-count : goal.returns-then-c-count
unfolding end_at
returns-then-c-count c = rw (lt-ltb (c.args.c + 1) c.args.count c.if-c-count.true) c.first_arc.ensures

pub returns-else-c-count : goal.returns-else-c-count
unfolding end_at
returns-else-c-count c = rw (le-ltb (c.args.c + 1) c.args.count c.if-c-count.false)
