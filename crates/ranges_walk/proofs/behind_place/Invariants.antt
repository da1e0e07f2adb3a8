-- `ranges_walk::behind_place` meets its contract. The loop's invariant: the first i live sets before the place are expanded.
use Rattle.ranges_walk.proofs.ExpandSets.{Expanded}
use Rattle.ranges_walk.proofs.behind_place.Given as goal

abbrev pub invariant-loop-i : goal.invariant-loop-i
invariant-loop-i l = Expanded l.file l.low l.high l.n l.initial.w l.w l.behind l.i
