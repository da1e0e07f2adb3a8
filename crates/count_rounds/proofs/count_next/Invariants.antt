-- `count_rounds::count_next` meets its contract. The loop's invariant: the next counts of the first i sets are made, and the counts are as
-- they were.
use Rattle.count_rounds.proofs.RoundLaws.{Nexting}
use Rattle.count_rounds.proofs.count_next.Given as goal

abbrev pub invariant-loop-i : goal.invariant-loop-i
invariant-loop-i l = Nexting l.file l.c l.block l.n l.kept l.initial.w l.i l.w
