use Rattle.std.proofs.Common.{arith}
use Rattle.compare_witness.proofs.FirstDifference.{none_more, first_found, first-nowhere}
use Rattle.compare_witness.proofs.first_difference.Goals as goal

pub loop-i-init : goal.loop-i-init
loop-i-init c s t es h j e l = absurd (omega arith)

pub returns-then-judge_pair-ne0 : goal.returns-then-judge_pair-ne0
returns-then-judge_pair-ne0 c = (omega arith, first_found c.args.t c.args.w.now c.args.n c.args.f c.args.g c.loop-i.i c.judge_pair.result c.judge_pair.ensures (λ z. omega (arith, c.if-judge_pair-ne0.true)) c.loop-i.invariant)

pub loop-i-preserved : goal.loop-i-preserved
loop-i-preserved c = none_more c.args.t c.args.w.now c.args.n c.args.f c.args.g c.loop-i.i c.judge_pair.result c.judge_pair.ensures (omega (arith, c.if-judge_pair-ne0.false)) c.loop-i.invariant

pub returns : goal.returns
returns c = first-nowhere c.args.t c.args.w.now c.args.n c.args.f c.args.g c.loop-i.i c.loop-i-test.false c.loop-i.invariant
