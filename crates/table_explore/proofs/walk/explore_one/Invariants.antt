-- `table_explore::walk::explore_one` meets its contract. The loop over the arcs: what is left of the chain gives the whole (Going);
-- the loop over the operations of one arc: what is left of them gives the whole (Performing).
use Prim.Native.Nat.{◌+◌, ◌%◌}
use Rattle.table_explore.proofs.ExploreOne.{Going}
use Rattle.table_operations.proofs.Laws.{Performing}
use Rattle.table_explore.proofs.walk.explore_one.Given as goal

abbrev pub invariant-loop-k : goal.invariant-loop-k
invariant-loop-k l = Performing l.file l.at l.p l.own l.k l.regs

abbrev pub invariant-arcs : goal.invariant-arcs
invariant-arcs l = Going l.file l.initial.w l.counts l.base l.c l.from_count l.from_plain l.own l.w l.sizes.count l.sizes.plain l.j

abbrev pub decreases-arcs : goal.decreases-arcs
decreases-arcs l = (l.j + 1) % 65536
