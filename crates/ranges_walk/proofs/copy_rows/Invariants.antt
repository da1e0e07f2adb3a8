-- `ranges_walk::copy_rows` meets its contract. The loop's invariant: the first i rows are copied.
use Rattle.ranges_walk.proofs.CopyRows.{Copied}
use Rattle.ranges_walk.proofs.copy_rows.Given as goal

abbrev pub invariant-loop-i : goal.invariant-loop-i
invariant-loop-i l = Copied l.initial.w l.w l.i
