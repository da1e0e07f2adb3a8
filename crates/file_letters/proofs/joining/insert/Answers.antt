use mathlib.Core.Path.{◌∙◌, sym}
use native.Mathlib.Omega.{arith}
use lib.ListN.{drop, length, length-drop, length-set, length-take}
use lib.Seq.{set-get_or}
use Rattle.file_letters.proofs.JoinLaws.{insert_above, insert_below, insert_last}
use Rattle.file_letters.proofs.joining.insert.Goals as goal
use Rattle.file_letters.proofs.joining.insert.Goals.{then-carried-here, else-carried-here}

-- the letter of this turn gives way, or stays
pub loop-here-preserved : goal.loop-here-preserved
loop-here-preserved c = elim c.if-carried-here.branch [ then-carried-here w ↦ rw (w.here-items-is, w.carried-is, length-set c.loop-here.here-items c.loop-here.here-index c.loop-here.carried) (c.loop-here.invariant ∙ insert_below c.loop-here.here-items (length c.loop-here.here-items) c.loop-here.here-index c.loop-here.carried (omega arith) (omega arith) w.if-carried-here.true) | else-carried-here w ↦ rw (w.here-items-is, w.carried-is, set-get_or c.loop-here.here-items c.loop-here.here-index 0) (c.loop-here.invariant ∙ insert_above c.loop-here.here-items (length c.loop-here.here-items) c.loop-here.here-index c.loop-here.carried (omega arith) (omega arith) w.if-carried-here.false) ]

pub returns-clause-inserted : goal.returns-clause-inserted
returns-clause-inserted c = sym (c.loop-here.invariant ∙ insert_last c.loop-here.here-items (drop c.args.n c.args.list.now) c.args.n c.loop-here.here-index c.loop-here.carried (omega (arith, c.loop-here.auto.here-items, length-take c.args.n c.args.list.now, c.requires)) (omega (arith, c.loop-here.auto.here-index-end, length-take c.args.n c.args.list.now, c.requires)) (omega (arith, length-drop c.args.n c.args.list.now, c.requires)))
