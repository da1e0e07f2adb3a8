-- `table_prune::prune_one` meets its contract. The loop's invariant: of the arcs before k those that add something are listed
-- from `kept` on (Thinning).
use Rattle.table_prune.proofs.PruneOne.{Thinning}
use Rattle.table_prune.proofs.prune_one.Given as goal

abbrev pub invariant-loop-k : goal.invariant-loop-k
invariant-loop-k l = Thinning l.initial.w l.base l.acc l.from l.to l.kept l.met l.k l.w l.told l.end
