use Rattle.count_rounds.proofs.Slots.{noting-more}
use Rattle.count_rounds.proofs.note_kept.Goals as goal

pub loop-i-preserved : goal.loop-i-preserved
loop-i-preserved c = noting-more c.note_targets.ensures.still c.loop-i.i c.note_targets.ensures.before c.note_targets.ensures.noted c.loop-i.invariant
