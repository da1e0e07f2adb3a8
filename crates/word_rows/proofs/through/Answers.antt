use native.Mathlib.Omega.{arith}
use mathlib.Core.Path.{sym, ◌∙◌}
use Rattle.word_rows.proofs.ThroughRows.{passed_start, through_on, through_off}
use Rattle.word_rows.proofs.through.Goals as goal
use Rattle.word_rows.proofs.through.Goals.{then-holds, else-holds}

pub loop-i-init : goal.loop-i-init
loop-i-init c = passed_start _ _ _ _

pub loop-i-preserved : goal.loop-i-preserved
loop-i-preserved c = elim c.if-holds.branch [
  | then-holds w ↦ rw w.w-is (through_on c.args.k (omega arith) c.loop-i.invariant c.load-by.ensures (sym c.holds.ensures ∙ w.if-holds.true) w.load.ensures w.store.ensures.kept w.store.ensures.set w.union.ensures)
  | else-holds w ↦ rw w.w-is (through_off c.args.k (omega arith) c.loop-i.invariant c.load-by.ensures (sym c.holds.ensures ∙ w.if-holds.false))
]

pub shape_of-w : goal.shape_of-w
shape_of-w c = c.loop-i.invariant.kept.long

pub returns : goal.returns
returns c = record { kept = c.loop-i.invariant.kept; set = λ i j h. c.loop-i.invariant.done i j (omega arith) }
