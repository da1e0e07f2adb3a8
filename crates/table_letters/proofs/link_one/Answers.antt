use Rattle.table_letters.proofs.LinkLetters.{LinkingOne-end, LinkingOne-more, LinkingOne-start}
use Rattle.table_letters.proofs.link_one.Goals as goal

pub loop-k-init : goal.loop-k-init
loop-k-init c = LinkingOne-start _ _ _ _ _ c.requires.1.1.1.1.1.1.0

pub loop-k-preserved : goal.loop-k-preserved
loop-k-preserved c = LinkingOne-more _ c.requires.0 c.requires.1.0 c.requires.1.1.0 c.requires.1.1.1.1.0 c.requires.1.1.1.1.1.0 c.requires.1.1.1.1.1.1.1.0 c.loop-k-test.true c.requires.1.1.1.1.1.1.1.1 c.row_of-row.ensures.0 c.listed_arc-arc.ensures.letter.0
    c.push.ensures.kept c.push.ensures.chain c.add.ensures.kept c.add.ensures.set c.loop-k.invariant

pub returns : goal.returns
returns c = record { kept = c.loop-k.invariant.kept; linked = LinkingOne-end c.loop-k-test.false c.loop-k.invariant }
