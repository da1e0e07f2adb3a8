-- `table_operations::operations::pass` meets its contract. The loop's invariant: the first k operations leave `regs`, and what is left gives the whole (Performing).
use Rattle.table_operations.proofs.OperationLoop.{Performing}
use Rattle.table_operations.proofs.operations.pass.Given as goal

abbrev pub invariant-loop-k : goal.invariant-loop-k
invariant-loop-k l = Performing l.file l.at l.p l.own l.k l.regs
