-- `table_operations::arcs::index_arcs` meets its contract. The loop's invariant: i places are left to note, and with them the list is whole (Indexing).
use Rattle.table_operations.proofs.ArcPlaces.{Indexing}
use Rattle.table_operations.proofs.arcs.index_arcs.Given as goal

abbrev pub invariant-loop-i : goal.invariant-loop-i
invariant-loop-i l = Indexing l.file l.initial.w l.initial.at l.initial.i l.w l.at l.i
