use native.Mathlib.Omega.{arith}
use Rattle.word_rows.proofs.HeldTwice.{Gathered-start, Gathered-more}
use Rattle.word_rows.proofs.held_twice.Goals as goal

pub loop-i-init : goal.loop-i-init
loop-i-init c = Gathered-start _ _ _ _

pub loop-i-preserved : goal.loop-i-preserved
loop-i-preserved c = Gathered-more c.common.result c.loop-i.invariant c.load-set.ensures c.common.ensures c.union-again.ensures c.union-all.ensures

pub returns : goal.returns
returns c i m j h l = c.loop-i.invariant.shared i m j h (omega arith)
