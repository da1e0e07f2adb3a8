-- `table_list_steps::visit` meets its contract. The loop's invariant: the arcs before k have joined the sets of their letters (Visiting).
use Rattle.table_list_steps.proofs.VisitArcs.{Visiting}
use Rattle.table_list_steps.proofs.visit.Given as goal

abbrev pub invariant-loop-k : goal.invariant-loop-k
invariant-loop-k l = Visiting l.initial.w l.base l.acc l.from l.to l.met l.k l.w l.out
