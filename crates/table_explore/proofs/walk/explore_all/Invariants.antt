-- `table_explore::walk::explore_all` meets its contract. The loop's invariant: the first c configurations have been walked (Walking).
use Prim.Native.Nat.{◌-◌}
use lib.ListN.{drop}
use Rattle.file_fields.specs.Parts.{first_arc}
use Rattle.table_explore.proofs.ExploreAll.{Walking}
use Rattle.table_explore.proofs.walk.explore_all.Given as goal

abbrev pub invariant-loop-c : goal.invariant-loop-c
invariant-loop-c l = Walking l.counts.arcs (drop (first_arc l.counts) l.file) l.initial.w l.base l.w l.sizes.count l.sizes.plain l.c

abbrev pub decreases-loop-c : goal.decreases-loop-c
decreases-loop-c l = 256 - l.c
