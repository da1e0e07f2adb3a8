-- `table_relettering::reletter` meets its contract. The loop's invariant: the arcs before k have their new numbers (Relisting).
use Rattle.table_relettering.proofs.RelistingLaws.{Relisting}
use Rattle.table_relettering.proofs.reletter.Given as goal

abbrev pub invariant-loop-k : goal.invariant-loop-k
invariant-loop-k l = Relisting l.new l.initial.w l.base l.k l.w
