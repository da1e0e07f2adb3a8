use native.Mathlib.Omega.{arith}
use mathlib.Core.Path.{ap, ◌∙◌}
use Prim.Native.Nat.{ℕ}
use lib.ListN.{get_or}
use Rattle.word_layout.specs.Layout.{arc_nexts, configs}
use Rattle.word_fields.specs.Frame.{Kept}
use Rattle.table_operations.proofs.ArcPlaces.{entry_at}
use Rattle.table_operations.proofs.LinkArcs.{Linking-start, Linking-more, Linking-end, place_kept}
use Rattle.word_fields.proofs.Laws.{kept_then, kept-wider}
use Rattle.table_operations.proofs.arcs.link_arcs.Goals as goal
use Rattle.table_operations.proofs.arcs.link_arcs.Goals.{At-loop-j}

pub loop-j-init : goal.loop-j-init
loop-j-init c = Linking-start _ _ _ (λ s h. c.fill.ensures.set s (omega arith))

-- which words are as they were, from the entry to the loop's test
kept : (l : goal.At-loop-j) → Kept arc_nexts configs l.args.w.now l.loop-j.w
kept l = kept_then (kept-wider (omega arith) (omega arith) l.fill.ensures.kept) l.loop-j.invariant.kept

pub get16-requires : goal.get16-requires
get16-requires c = omega (arith, c.requires.0.lies.few, (kept (goal.at.get16-requires c).At-loop-j).long)

pub byte-state-requires : goal.byte-state-requires
byte-state-requires c = let a = entry_at c.args.w.now c.requires.0 c.requires.2 c.loop-j.j c.loop-j-test.true in
    omega (arith, a.fits, c.get16.ensures.0, place_kept (kept (goal.at.byte-state-requires c).At-loop-j) c.loop-j.j (omega (arith, c.requires.0.lies.few, c.loop-j-test.true)))

pub push-requires : goal.push-requires
push-requires c = omega (arith, c.requires.0.lies.few, (kept (goal.at.push-requires c).At-loop-j).long, c.byte-state.ensures.1)

pub loop-j-preserved : goal.loop-j-preserved
loop-j-preserved c = Linking-more c.requires.0.lies.few c.loop-j-test.true (c.byte-state.ensures.0 ∙ ap (λ (x : ℕ). get_or c.args.file.now x 0) c.get16.ensures.0) c.byte-state.ensures.1 c.push.ensures.kept c.push.ensures.chain c.loop-j.invariant

pub shape_of-w : goal.shape_of-w
shape_of-w c = (kept (goal.at.shape_of-w c).At-loop-j).long

pub returns : goal.returns
returns c = record { kept = kept (goal.at.returns c).At-loop-j; linked = Linking-end c.requires.0.lies.few c.loop-j-test.false c.loop-j.invariant }
