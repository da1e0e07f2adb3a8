-- `ranges::some_set` meets its contract: none of the rows that the loop has passed is accepted as it is asked.
use Rattle.ranges.proofs.SetTests.{NoneAsked}
use Rattle.ranges.proofs.some_set.Given as goal

abbrev pub invariant-loop-i : goal.invariant-loop-i
invariant-loop-i l = NoneAsked l.w l.finals l.accepted l.i
