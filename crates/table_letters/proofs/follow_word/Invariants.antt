-- `table_letters::follow_word` meets its contract. The loop's invariant: what has joined, with the digits that are left, gives the whole
-- (Taking).
use Rattle.table_letters.proofs.FollowSources.{Taking}
use Rattle.table_letters.proofs.follow_word.Given as goal

abbrev pub invariant-loop-left : goal.invariant-loop-left
invariant-loop-left l = Taking l.letters l.w l.block l.key l.sources l.initial.out l.out l.left

abbrev pub decreases-loop-left : goal.decreases-loop-left
decreases-loop-left l = l.left
