-- `table_letters::follow` meets its contract. The loop's invariant: the sources that stand in the first q words have been visited (Visited).
use Prim.Native.Nat.{◌*◌, ◌+◌, ◌≤◌}
use Rattle.table_letters.proofs.FollowSources.{Visited}
use Rattle.table_letters.proofs.follow.Given as goal

abbrev pub invariant-loop-q : goal.invariant-loop-q
invariant-loop-q l = (l.q ≤ 4) × Visited l.letters l.w l.block (256 * (l.l + 1)) l.word-items l.out l.q
