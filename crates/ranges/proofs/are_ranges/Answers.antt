use Rattle.std.proofs.Common.{◌∙◌, ap, not, sym}
use Rattle.ranges.proofs.RangeTests.{low-above, no_letter, passed_all, range_passed}
use Rattle.ranges.proofs.are_ranges.Goals as goal

-- low is above high
pub returns-then-high-low : goal.returns-then-high-low
returns-then-high-low c = ap not (sym (c.loop-rest.invariant ∙ low-above c.args.a c.loop-rest.rest.now c.in-len2-up.len_at_least c.if-high-low.true))

-- high is no letter
pub returns-then-a-from : goal.returns-then-a-from
returns-then-a-from c = ap not (sym (c.loop-rest.invariant ∙ no_letter c.args.a c.loop-rest.rest.now c.in-len2-up.len_at_least c.if-high-low.false (rw (sym c.from.ensures) c.if-a-from.true)))

pub loop-rest-preserved : goal.loop-rest-preserved
loop-rest-preserved c = c.loop-rest.invariant ∙ range_passed c.args.a c.loop-rest.rest.now c.in-len2-up.len_at_least c.if-high-low.false (rw (sym c.from.ensures) c.if-a-from.false)

pub returns : goal.returns
returns c = c.is_empty.ensures ∙ passed_all c.args.a c.loop-rest.rest.now c.in_default.len_below ∙ ap not (sym c.loop-rest.invariant)
