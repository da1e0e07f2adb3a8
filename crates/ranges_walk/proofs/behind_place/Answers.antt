use native.Mathlib.Omega.{arith}
use mathlib.Core.Path.{◌∙◌}
use mathlib.Core.Logic.{inr}
use Prim.Native.Nat.{◌+◌}
use Rattle.word_fields.specs.Frame.{Kept}
use Rattle.word_fields.proofs.Laws.{chain-start, kept_then, kept-wider}
use Rattle.word_layout.specs.Layout.{letter_sets, set_rows}
use Rattle.ranges_walk.proofs.ExpandSets.{Expanded-end, Expanded-more, Expanded-over, Expanded-start}
use Rattle.ranges_walk.proofs.WalkFrames.{before-kept, ready-kept}
use Rattle.ranges_walk.proofs.behind_place.Goals as goal
use Rattle.ranges_walk.proofs.behind_place.Goals.{After-fill, At-loop-i}

pub fill-requires : goal.fill-requires
fill-requires c = omega (arith, c.requires.0.enough)

pub loop-i-init : goal.loop-i-init
loop-i-init c = Expanded-start _ _ _ _ (chain-start _ _ _ _ _ (λ i h. c.fill.ensures.set i (omega arith)))

-- emptying the chains writes into the table
filled : (f : goal.After-fill) → Kept set_rows (letter_sets + 256) f.args.w.now f.fill.new.w
filled f = kept-wider (omega arith) (omega arith) f.fill.ensures.kept

-- where the loop's test is reached, the words are as they were but for the table and the sets of the letters
looped : (l : goal.At-loop-i) → Kept set_rows (letter_sets + 256) l.args.w.now l.loop-i.w
looped l = let filled' : Kept set_rows (letter_sets + 256) l.args.w.now l.fill.new.w = kept-wider (omega arith) (omega arith) l.fill.ensures.kept in
    kept_then (filled') l.loop-i.invariant.kept

pub expand-requires : goal.expand-requires
expand-requires c = record { ready = (ready-kept c.requires.0 (inr (omega arith)) (looped (goal.at.expand-requires c).At-loop-i), omega (arith, c.requires.1.0)); i_bound = (omega (arith, c.requires.1.1), c.loop-i.invariant.chained) }

pub returns-in_err-behind : goal.returns-in_err-behind
returns-in_err-behind c = rw c.from_residual.ensures (record {
  kept = kept_then (looped (goal.at.returns-in_err-behind c).At-loop-i) c.expand.ensures.kept;
  chained = tt;
  meets = λ sets h. Expanded-over _ _ _ _ c.requires.1.1 c.expand.result c.loop-i-test.true c.loop-i.invariant c.expand.ensures.kept c.expand.ensures.chained c.expand.ensures.meets c.in_err-behind.was sets
      (before-kept c.args.file.now c.requires.1.1 (omega arith) (filled (goal.at.returns-in_err-behind c).After-fill) h);
})

pub loop-i-preserved : goal.loop-i-preserved
loop-i-preserved c = Expanded-more _ _ _ _ c.requires.1.1 c.expand.result c.loop-i-test.true c.loop-i.invariant c.expand.ensures.kept c.expand.ensures.chained c.expand.ensures.meets c.in_ok-behind.was

pub shape_of-w : goal.shape_of-w
shape_of-w c = (looped (goal.at.shape_of-w c).At-loop-i).long

pub returns : goal.returns
returns c = record { kept = looped (goal.at.returns c).At-loop-i; chained = c.loop-i.invariant.chained; meets = λ sets h. Expanded-end _ _ _ _ c.loop-i-test.false c.loop-i.invariant sets (before-kept c.args.file.now c.requires.1.1 (omega arith) (filled (goal.at.returns c).After-fill) h) }
