use Rattle.std.proofs.Common.{◌≡◌, ◌+◌, arith, get_or, sym}
use Rattle.word_layout.specs.Layout.{counts}
use Rattle.count_sums.specs.Sums.{targets_sum}
use Rattle.count_sums.proofs.Steps.{targets-more, targets-none, targets-part}
use Rattle.count_sums.proofs.sum_targets.Goals as goal
use Rattle.count_sums.proofs.sum_targets.Goals.{After-get16}

pub loop-l-init : goal.loop-l-init
loop-l-init c = sym (targets-none _ _)

-- a letter more
added : (c : goal.After-get16) → c.loop-l.sum + get_or c.args.w.now (counts + c.get16.result) 0 ≡ targets_sum c.args.w.now (c.loop-l.l + 1) c.args.from
added c = rw (c.loop-l.invariant, c.get16.ensures.0) (sym (targets-more c.args.w.now c.loop-l.l c.args.from))

pub overflow_add-sum-in-loop-l : goal.overflow_add-sum-in-loop-l
overflow_add-sum-in-loop-l c = omega (arith, added (goal.at.overflow_add-sum-in-loop-l c).After-get16, targets-part c.args.w.now (c.loop-l.l + 1) c.args.a c.args.from (omega arith), c.requires.fits)

pub loop-l-preserved : goal.loop-l-preserved
loop-l-preserved c = added (goal.at.loop-l-preserved c).After-get16
