use Rattle.std.proofs.Common.{◌∙◌, arith, sym}
use Rattle.ranges.proofs.SetTests.{none-asked, none_more, one-asked, row-asked}
use Rattle.ranges.proofs.some_set.Goals as goal

-- this row is
pub returns-then-meets-accepted : goal.returns-then-meets-accepted
returns-then-meets-accepted c count arcs sets h = one-asked c.args.w.now c.args.finals c.args.accepted c.loop-i.i c.meets.result c.load.ensures c.meets.ensures count h c.loop-i-test.true c.if-meets-accepted.true

-- nor is this row
pub loop-i-preserved : goal.loop-i-preserved
loop-i-preserved c = none_more c.args.w.now c.args.finals c.args.accepted c.loop-i.invariant
    (λ count v. sym (row-asked c.args.w.now c.args.finals c.args.accepted c.loop-i.i c.meets.result c.load.ensures c.meets.ensures count v) ∙ c.if-meets-accepted.false)

pub returns : goal.returns
returns c count arcs sets h = none-asked c.args.w.now c.args.finals c.args.accepted count h (λ k j b v. c.loop-i.invariant k j (omega (arith, c.loop-i-test.false)) v)
