use Rattle.std.proofs.Common.{◌∙◌, ap}
use Rattle.word_layout.specs.declared.SetTable.{SetTable}
use Rattle.live_table.specs.SetRows.{left_row}
use Rattle.count_rounds.proofs.EndLaws.{Ending-more}
use Rattle.count_rounds.proofs.count_ends.Goals as goal

pub loop-i-preserved : goal.loop-i-preserved
loop-i-preserved c = Ending-more c.left-set.result c.requires.0 c.requires.1 c.loop-i-test.true c.loop-i.invariant
    (c.left-set.ensures ∙ ap (λ (t : SetTable). left_row t c.loop-i.w c.loop-i.i) c.set_table.ensures) c.ends_in.ensures
