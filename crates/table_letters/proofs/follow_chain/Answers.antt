use mathlib.Core.Path.{refl}
use Rattle.word_rows.specs.Rows.{related}
use Rattle.table_letters.proofs.FollowChain.{Following-end, Following-less, Following-more, Following-start}
use Rattle.table_letters.proofs.follow_chain.Goals as goal

pub loop-k-init : goal.loop-k-init
loop-k-init c = Following-start _ c.requires.0 c.requires.1 c.get16-k.ensures.0

pub loop-k-smaller : goal.loop-k-smaller
loop-k-smaller c = Following-less c.loop-k.invariant c.requires.0 c.loop-k-test.true c.get16-k-in-loop-k.ensures.0

pub loop-k-preserved : goal.loop-k-preserved
unfolding related
loop-k-preserved c = Following-more c.loop-k.invariant c.requires.0 c.loop-k-test.true c.get16-k-in-loop-k.ensures.0 c.union-more.result
    (λ j. rw (c.union-more.ensures j, c.load.ensures, c.listed_arc-arc.ensures.target.0) refl)

pub returns : goal.returns
returns c = Following-end c.loop-k.invariant c.requires.0 c.loop-k-test.false
