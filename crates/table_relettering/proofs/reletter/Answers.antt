use native.Mathlib.Omega.{arith}
use Rattle.table_relettering.proofs.RelistingLaws.{relisted, Relisting-more, Relisting-start}
use Rattle.table_relettering.proofs.reletter.Goals as goal

pub loop-k-init : goal.loop-k-init
loop-k-init c = Relisting-start _ _ _

pub listed_arc-arc-requires : goal.listed_arc-arc-requires
listed_arc-arc-requires c = (omega (arith, c.loop-k-test.true, c.requires.1), omega (arith, c.requires.2, c.loop-k.invariant.kept.long))

pub list_arc-requires : goal.list_arc-requires
list_arc-requires c = (omega (arith, c.loop-k-test.true, c.requires.1), c.new_letter-letter.ensures.1 c.listed_arc-arc.ensures.letter.1, c.listed_arc-arc.ensures.target.1, omega (arith, c.requires.2, c.loop-k.invariant.kept.long))

pub loop-k-preserved : goal.loop-k-preserved
loop-k-preserved c = Relisting-more c.loop-k.invariant (omega (arith, c.loop-k-test.true, c.requires.1)) (rw (← c.listed_arc-arc.ensures.letter.0) c.new_letter-letter.ensures.0) c.listed_arc-arc.ensures.target.0 c.list_arc.ensures.kept c.list_arc.ensures.listed

pub shape_of-w : goal.shape_of-w
shape_of-w c = c.loop-k.invariant.kept.long

pub returns : goal.returns
returns c = relisted c.loop-k.invariant c.loop-k-test.false
