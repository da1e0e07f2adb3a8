-- `table_operations::arcs::link_arcs` meets its contract. The loop's invariant: the first j entries are in the chains (Linking).
use Rattle.table_operations.proofs.LinkArcs.{Linking}
use Rattle.table_operations.proofs.arcs.link_arcs.Given as goal

abbrev pub invariant-loop-j : goal.invariant-loop-j
invariant-loop-j l = Linking l.file l.initial.w l.j-end l.w l.j
