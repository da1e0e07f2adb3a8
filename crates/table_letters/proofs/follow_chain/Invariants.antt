-- `table_letters::follow_chain` meets its contract. The loop's invariant: what has joined, with what is left of the chain, gives the whole
-- (Following).
use Prim.Native.Nat.{◌%◌, ◌+◌}
use Rattle.table_letters.proofs.FollowChain.{Following}
use Rattle.table_letters.proofs.follow_chain.Given as goal

abbrev pub invariant-loop-k : goal.invariant-loop-k
invariant-loop-k l = Following l.letters l.w l.block l.key l.initial.out l.out l.k

abbrev pub decreases-loop-k : goal.decreases-loop-k
decreases-loop-k l = (l.k + 1) % 65536
