-- `live_letters::meet_letters` meets its contract. The loop's invariant: the letters before l are met (Turns of proofs/MeetAll.antt).
use Prim.Native.Nat.{◌-◌}
use Rattle.live_letters.specs.Meeting.{left_set, right_set}
use Rattle.live_letters.proofs.MeetAll.{Turns}
use Rattle.live_letters.proofs.meet_letters.Given as goal

abbrev pub invariant-loop-l : goal.invariant-loop-l
invariant-loop-l g l = Turns l.t (left_set l.initial.w l.acc l.met) (right_set l.initial.w l.acc l.met) l.i l.low l.end l.from l.initial.w l.w l.n l.dead l.l

abbrev pub decreases-loop-l : goal.decreases-loop-l
decreases-loop-l g l = l.end - l.l
