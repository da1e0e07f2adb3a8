use native.Mathlib.Omega.{arith}
use Rattle.word_fields.proofs.Laws.{but_then}
use Rattle.table_letters.proofs.LinkLetters.{Beyond, cleared-beyond, Linking-end, Linking-more, Linking-range, Linking-sources, Linking-start}
use Rattle.table_letters.proofs.link.Goals as goal
use Rattle.table_letters.proofs.link.Goals.{At-loop-c}

pub loop-c-init : goal.loop-c-init
loop-c-init c = Linking-start _ c.requires.0 c.requires.1.1.0 c.requires.1.1.1.0 c.requires.1.1.1.1.1.0 c.requires.1.1.1.1.1.1 c.fill.ensures.kept c.fill.ensures.set c.clear_rows.ensures.kept

-- which words are as they were, from the entry to the loop's test
kept : (l : goal.At-loop-c) → Beyond l.args.w.now l.loop-c.w
kept l = but_then (cleared-beyond l.requires.0 l.fill.ensures.kept l.clear_rows.ensures.kept) l.loop-c.invariant.kept

pub first_arc-from-requires : goal.first_arc-from-requires
first_arc-from-requires c = omega (arith, c.loop-c-test.true, c.requires.1.1.1, c.loop-c.invariant.listed.few, (kept (goal.at.first_arc-from-requires c).At-loop-c).long)

pub link_one-requires : goal.link_one-requires
link_one-requires c = let r = Linking-range c.requires.1.1.0 c.requires.1.1.1.0 c.loop-c-test.true c.loop-c.invariant c.first_arc-from.ensures c.end_of-to.ensures in
    (c.requires.0, (c.requires.1.1.0, (c.requires.1.1.1.0, (omega (arith, c.requires.1.1.1.1.0, (kept (goal.at.link_one-requires c).At-loop-c).long), (c.loop-c.invariant.listed.few, (omega (arith, c.loop-c-test.true, c.loop-c.invariant.listed.few), (r.0, (r.1, Linking-sources c.requires.1.1.0 c.requires.1.1.1.0 c.loop-c-test.true c.loop-c.invariant c.first_arc-from.ensures c.end_of-to.ensures))))))))

pub loop-c-preserved : goal.loop-c-preserved
loop-c-preserved c = Linking-more c.requires.1.1.0 c.requires.1.1.1.0 c.loop-c-test.true c.loop-c.invariant c.first_arc-from.ensures c.end_of-to.ensures c.link_one.ensures.kept c.link_one.ensures.linked

pub shape_of-w : goal.shape_of-w
shape_of-w c = (kept (goal.at.shape_of-w c).At-loop-c).long

pub returns : goal.returns
returns c = record { kept = kept (goal.at.returns c).At-loop-c; linked = Linking-end c.requires.0 c.requires.1.1.0 c.requires.1.1.1.0 (omega (arith, c.requires.1.1.1.1.0, (kept (goal.at.returns c).At-loop-c).long)) c.loop-c-test.false c.loop-c.invariant }
