-- `ranges_walk::walk_places` meets its contract. The loop's invariant: the places before byte i are walked.
use Prim.Native.Nat.{◌-◌}
use lib.ListN.{length}
use Rattle.ranges_walk.proofs.PlacesWalk.{Passed}
use Rattle.ranges_walk.proofs.walk_places.Given as goal

abbrev pub invariant-loop-i : goal.invariant-loop-i
invariant-loop-i l = Passed l.file l.c l.block l.places l.initial.w l.w l.n l.i

abbrev pub decreases-loop-i : goal.decreases-loop-i
decreases-loop-i l = length l.places - l.i
