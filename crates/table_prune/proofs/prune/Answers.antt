use mathlib.Core.Path.{refl}
use mathlib.Core.Logic.{inl, inr, ⊎_elim}
use Prim.Native.Nat.{◌≤◌}
use native.Mathlib.Omega.{arith}
use lib.ListN.{length}
use Rattle.word_fields.proofs.Laws.{but_same}
use Rattle.word_layout.specs.Layout.{block_end}
use Rattle.table_sets.proofs.Laws.{end_below}
use Rattle.table_prune.proofs.PruneAll.{from-was, pruned-tells, Pruning-kept, Pruning-more, Pruning-start, to-was}
use Rattle.table_prune.proofs.prune.Goals as goal
use Rattle.table_prune.proofs.prune.Goals.{After-ahead-met}

-- all stay
pub returns-then-plain-count : goal.returns-then-plain-count
returns-then-plain-count c = record { kept = but_same _ _ _ _ _; same = (refl, refl, omega arith); told = λ letters arcs few t. t }

pub loop-c-init : goal.loop-c-init
loop-c-init c = Pruning-start _ _ _ _ _

pub ahead-met-requires : goal.ahead-met-requires
ahead-met-requires c = (omega (arith, c.loop-c-test.true, c.requires.1.1.few), (record { block = omega (arith, c.requires.1.0, c.loop-c.invariant.frame.long); rows = omega (arith, c.requires.0, c.requires.1.0, c.loop-c.invariant.frame.long); apart = inl c.requires.0 }, c.loop-c.invariant.starts))

-- the words are long enough, once `ahead` has written its sets
long : (c : goal.After-ahead-met) → block_end c.args.block.base ≤ length c.ahead-met.new.w
long c = omega (arith, c.requires.1.0, c.loop-c.invariant.frame.long, c.ahead-met.ensures.kept.long)

pub end_of-to-requires : goal.end_of-to-requires
end_of-to-requires c = (c.loop-c-test.true, (c.requires.1.1.few, long (goal.at.end_of-to-requires c).After-ahead-met))

pub prune_one-end-requires : goal.prune_one-end-requires
prune_one-end-requires c = let v = Pruning-kept c.requires.0 c.requires.1.1 c.ahead-met.ensures.kept c.loop-c.invariant in
    let f = from-was c.loop-c-test.true v c.first_arc-from.ensures in
    let t = to-was c.loop-c-test.true v c.end_of-to.ensures in
    (c.requires.0, (long (goal.at.prune_one-end-requires c).After-ahead-met, (omega (arith, f, v.behind c.loop-c-test.true), (omega (arith, f, t, c.requires.1.1.rises c.loop-c.c c.loop-c-test.true), omega (arith, t, end_below c.loop-c.c c.requires.1.1, c.requires.1.1.less)))))

pub start_arcs-requires : goal.start_arcs-requires
start_arcs-requires c = (omega (arith, c.requires.1.1.few, c.loop-c-test.true), omega (arith, c.loop-c.invariant.below, c.requires.1.1.less), omega (arith, long (goal.at.start_arcs-requires c).After-ahead-met, c.prune_one-end.ensures.kept.long))

pub loop-c-preserved : goal.loop-c-preserved
loop-c-preserved c = Pruning-more c.requires.0 c.requires.1.1 c.loop-c-test.true (Pruning-kept c.requires.0 c.requires.1.1 c.ahead-met.ensures.kept c.loop-c.invariant) c.first_arc-from.ensures c.end_of-to.ensures c.prune_one-end.ensures.kept c.prune_one-end.ensures.place.0 c.prune_one-end.ensures.place.1 c.prune_one-end.ensures.rest c.prune_one-end.ensures.sound
    (λ x j m t. ⊎_elim (λ s. inl (c.ahead-met.ensures.covered x j m s)) (λ b. inr b) (c.prune_one-end.ensures.full x j m t)) c.start_arcs.ensures.kept c.start_arcs.ensures.starts

pub returns : goal.returns
returns c = record { kept = c.loop-c.invariant.frame; same = (refl, refl, omega (arith, c.loop-c.invariant.below)); told = pruned-tells c.requires.0 c.requires.1.1 c.loop-c-test.false c.loop-c.invariant }
