use Rattle.std.proofs.Common.{◌+◌, ◌∙◌, arith}
use Rattle.word_layout.specs.Layout.{counts}
use Rattle.count_rounds.proofs.RoundLaws.{Nexting-more, summable}
use Rattle.count_rounds.proofs.count_next.Goals as goal

pub sum_targets-requires : goal.sum_targets-requires
sum_targets-requires c = summable _ _ _ _ _ c.loop-i.i c.slot_of-slot.ensures.still c.requires.1 (λ j h. c.slot_of-slot.ensures.kept.below (counts + j) (omega arith) ∙ c.loop-i.invariant.same j h) c.slot_of-slot.ensures.noted.0 c.slot_of-slot.ensures.noted.1

pub loop-i-preserved : goal.loop-i-preserved
loop-i-preserved c = Nexting-more _ _ _ _ _ c.loop-i-test.true c.loop-i.invariant c.slot_of-slot.ensures.kept c.slot_of-slot.ensures.still c.slot_of-slot.ensures.noted.1 c.sum_targets.ensures
