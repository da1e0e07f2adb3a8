-- `live_letters::meet_letter` meets its contract: the row of the letter's sets is met.
use native.Mathlib.Omega.{arith}
use Rattle.std.proofs.Common.{◌<◌, ◌≢◌, ◌∙◌, below_more, get_or-set_other, get_or-set_same, length, length-set}
use Rattle.live_letters.proofs.MeetAll.{letter-sets, some_side}
use Rattle.live_letters.proofs.meet_letter.Goals as goal

pub loop-k-preserved : goal.loop-k-preserved
loop-k-preserved g c =
    let lt : c.loop-k.k < length c.loop-k.sets = omega arith in (
      simp length-set c.loop-k.invariant.0,
      below_more _ _ (λ j h. let ne : j ≢ c.loop-k.k = omega arith in rw get_or-set_other (c.loop-k.invariant.1 j h)) (rw get_or-set_same c.set_of.ensures),
    )

pub returns : goal.returns
returns g c =
    let e = letter-sets c.args.w.now c.loop-k.sets c.args.acc c.args.met c.args.l (some_side c.requires.tabled.0.0 c.requires.tabled.0.1) c.loop-k.invariant.0 c.well_formed.1.1.0.1.0.1 c.well_formed.1.1.1.0.1.0.1
    (λ j h. c.loop-k.invariant.1 j (omega arith)) in
    rw (← e.0, ← e.1) c.meet.ensures
