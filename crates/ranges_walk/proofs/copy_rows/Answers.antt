use native.Mathlib.Omega.{arith}
use mathlib.Core.Path.{◌∙◌, refl, sym}
use Rattle.word_layout.specs.Layout.{before_table, set_table}
use Rattle.ranges_walk.proofs.CopyRows.{copied_more, Copied-start}
use Rattle.ranges_walk.proofs.WalkFrames.{one-row}
use Rattle.ranges_walk.proofs.copy_rows.Goals as goal

pub loop-i-init : goal.loop-i-init
loop-i-init c = Copied-start _

pub load-set-requires : goal.load-set-requires
load-set-requires c = omega (arith, c.loop-i.invariant.kept.long)

pub store-requires : goal.store-requires
store-requires c = omega (arith, c.loop-i.invariant.kept.long)

pub loop-i-preserved : goal.loop-i-preserved
loop-i-preserved c = copied_more c.load-set.result (omega arith) c.loop-i.invariant c.load-set.ensures c.store.ensures.kept c.store.ensures.set

pub shape_of-w : goal.shape_of-w
shape_of-w c = c.loop-i.invariant.kept.long

pub returns : goal.returns
returns c = record { kept = c.loop-i.invariant.kept; rows = λ i h. one-row before_table refl c.loop-i.w i ∙ c.loop-i.invariant.rows i (omega arith) ∙ sym (one-row set_table refl c.args.w.now i) }
