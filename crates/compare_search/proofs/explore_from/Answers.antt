use native.Mathlib.Omega.{arith}
use mathlib.Core.Path.{◌∙◌}
use Rattle.word_fields.proofs.Laws.{kept_then}
use Rattle.live_letters.proofs.Laws.{walk_end, walked_more, Walked-over, walked_start}
use Rattle.compare_search.proofs.BlockFrames.{both-kept, ready-kept}
use Rattle.compare_search.proofs.explore_from.Goals as goal

pub loop-i-init : goal.loop-i-init
loop-i-init c = walked_start _ _ _ _ _ _ c.requires.table

pub expand-requires : goal.expand-requires
expand-requires c = record { ready = ready-kept c.loop-i.invariant.kept c.requires.ready; i_lt_from = (c.loop-i-test.true, c.loop-i.invariant.table) }

pub returns-in_err-n : goal.returns-in_err-n
returns-in_err-n c = rw c.from_residual.ensures (record { kept = kept_then c.loop-i.invariant.kept c.expand.ensures.kept; grows = tt; meets = Walked-over c.expand.new.w c.expand.result c.loop-i-test.true c.loop-i.invariant c.expand.ensures.kept c.expand.ensures.grows (λ s t es e b. c.expand.ensures.meets s t es e (both-kept c.loop-i.invariant.kept c.requires.ready b)) c.in_err-n.was })

pub overflow_add-i : goal.overflow_add-i
overflow_add-i c = omega (arith, c.loop-i.invariant.table.few)

pub loop-i-smaller : goal.loop-i-smaller
loop-i-smaller c = omega (arith, c.loop-i.invariant.table.few)

pub loop-i-preserved : goal.loop-i-preserved
loop-i-preserved c = walked_more c.expand.new.w c.expand.result c.loop-i-test.true c.loop-i.invariant c.expand.ensures.kept c.expand.ensures.grows (λ s t es e b. c.expand.ensures.meets s t es e (both-kept c.loop-i.invariant.kept c.requires.ready b)) c.in_ok-n.n c.in_ok-n.was

pub shape_of-w : goal.shape_of-w
shape_of-w c = c.loop-i.invariant.kept.long

pub returns : goal.returns
returns c = record { kept = c.loop-i.invariant.kept; grows = (c.loop-i.invariant.some_row, c.loop-i.invariant.table); meets = λ s t q b h. walk_end _ _ s t q c.loop-i.i 512 c.loop-i-test.false (omega (arith, c.loop-i.invariant.few, c.loop-i.invariant.table.few)) (c.loop-i.invariant.walk s t q b h) }
