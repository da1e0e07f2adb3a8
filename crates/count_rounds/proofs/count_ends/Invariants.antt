-- `count_rounds::count_ends` meets its contract. The loop's invariant: the ends of the first i sets are counted, and no other word has changed.
use Rattle.count_rounds.proofs.EndLaws.{Ending}
use Rattle.count_rounds.proofs.count_ends.Given as goal

abbrev pub invariant-loop-i : goal.invariant-loop-i
invariant-loop-i l = Ending l.finals l.initial.w l.i l.w
