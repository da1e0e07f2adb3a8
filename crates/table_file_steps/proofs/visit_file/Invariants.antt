-- `table_file_steps::visit_file` meets its contract. The loop's invariant: what has joined, with what is left of the chain, gives the
-- whole (Following).
use Prim.Native.Nat.{◌+◌, ◌%◌}
use Rattle.table_file_steps.proofs.VisitFile.{Following}
use Rattle.table_file_steps.proofs.visit_file.Given as goal

abbrev pub invariant-loop-j : goal.invariant-loop-j
invariant-loop-j l = Following l.file l.initial.w l.counts l.block l.acc l.own l.met l.w l.out l.j

abbrev pub decreases-loop-j : goal.decreases-loop-j
decreases-loop-j l = (l.j + 1) % 65536
