use mathlib.Core.Path.{◌∙◌}
use native.Mathlib.Omega.{arith}
use Rattle.word_fields.proofs.Laws.{kept_same, kept_then, kept-wider}
use Rattle.table_live.proofs.LetterTable.{upto-more, upto-start}
use Rattle.table_live.proofs.number_letters.Goals as goal

pub loop-i-init : goal.loop-i-init
loop-i-init c = (omega arith, (kept_same _ _ _, upto-start _ _ c.fill.ensures.set))

pub loop-i-preserved : goal.loop-i-preserved
loop-i-preserved c = (
  omega (arith, c.loop-i-test.true),
  (
    kept_then c.loop-i.invariant.1.0 (kept-wider (omega arith) (omega arith) c.put16.ensures.kept),
    upto-more _ _ _ _ (c.from.ensures ∙ c.key_of.ensures) c.loop-i.invariant.1.1 c.put16.ensures.set,
  ),
)
