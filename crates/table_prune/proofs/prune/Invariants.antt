-- `table_prune::prune` meets its contract. The loop's invariant: the configurations before c have been pruned (Pruning).
use Rattle.table_prune.proofs.PruneAll.{Pruning}
use Rattle.table_prune.proofs.prune.Given as goal

abbrev pub invariant-loop-c : goal.invariant-loop-c
invariant-loop-c l = Pruning l.initial.w l.base l.acc l.count l.plain l.c l.w l.kept
