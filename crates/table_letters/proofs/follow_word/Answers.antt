use native.Mathlib.Omega.{arith}
use Rattle.table_letters.proofs.FollowSources.{Taking-end, Taking-more, Taking-start}
use Rattle.table_letters.proofs.follow_word.Goals as goal

pub loop-left-init : goal.loop-left-init
loop-left-init c = Taking-start _ _ _ _ _ _

pub follow_chain-more-requires : goal.follow_chain-more-requires
follow_chain-more-requires c = (c.requires.0, omega (arith, c.requires.1, c.lowest-c.ensures.0))

pub without_lowest-left-requires : goal.without_lowest-left-requires
without_lowest-left-requires c = (c.lowest-c.ensures.1, c.lowest-c.ensures.2)

pub loop-left-preserved : goal.loop-left-preserved
loop-left-preserved c = Taking-more c.loop-left.invariant c.lowest-c.result c.follow_chain-more.result c.without_lowest-left.result c.lowest-c.ensures.1 c.follow_chain-more.ensures c.without_lowest-left.ensures.digits

pub returns : goal.returns
returns c = Taking-end c.loop-left.invariant c.loop-left-test.false
