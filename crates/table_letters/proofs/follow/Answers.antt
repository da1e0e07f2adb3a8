use mathlib.Core.Path.{◌∙◌, ◌≡◌, ap, subst}
use mathlib.Core.Bool.{◌&&◌}
use mathlib.Core.List.{List}
use Prim.Native.Nat.{◌*◌, ◌+◌, ℕ}
use native.Mathlib.Omega.{arith}
use Rattle.word_rows.specs.Rows.{related}
use Rattle.word_sets.specs.Sets.{in_set}
use Rattle.word_sets.proofs.Laws.{four}
use Rattle.table_sets.proofs.Laws.{led}
use Rattle.table_letters.proofs.FollowSources.{Visited, sources-onward, Visited-more, Visited-start}
use Rattle.table_letters.proofs.follow.Goals as goal

pub loop-q-init : goal.loop-q-init
loop-q-init c = (omega arith, Visited-start _ _ _ _ _ _ c.empty-out.ensures)

pub follow_word-more-requires : goal.follow_word-more-requires
follow_word-more-requires c = (c.requires.0, omega (arith, c.requires.1, c.loop-q-test.true))

pub loop-q-preserved : goal.loop-q-preserved
loop-q-preserved c = (omega (arith, c.loop-q-test.true), Visited-more c.follow_word-more.result ((four c.common-sources.result _ c.common-sources.type_inv).fits c.loop-q.q) c.loop-q.invariant.1 c.follow_word-more.ensures)

pub returns : goal.returns
unfolding related
returns c = let e : c.loop-q.q ≡ 4 = omega (arith, c.loop-q-test.false, c.loop-q.invariant.0) in
    let done = subst (λ (q : ℕ). Visited c.args.letters c.args.w.now c.args.block (256 * (c.args.l + 1)) c.common-sources.result c.loop-q.out q) e c.loop-q.invariant.1 in
    λ arcs held settled.
    led _ c.loop-q.out (omega arith) c.args.letters arcs held settled c.args.l c.requires.1
    (sources-onward c.args.set c.common-sources.result c.requires.0 c.requires.1 settled.0
    (λ j. c.common-sources.ensures j ∙ ap (λ (r : List ℕ). in_set c.args.set j && in_set r j) c.load.ensures) done)
