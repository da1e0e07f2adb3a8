use mathlib.Core.Path.{subst, sym}
use mathlib.Core.Logic.{inl}
use native.Mathlib.Omega.{arith}
use lib.Dec.{T}
use Rattle.table_sets.specs.Stepping.{Room}
use Rattle.table_prune.proofs.PruneOne.{thinned_full, thinned_sound, Thinning-more, Thinning-skip, Thinning-start}
use Rattle.table_prune.proofs.prune_one.Goals as goal
use Rattle.table_prune.proofs.prune_one.Goals.{In-loop-k, then-adds, else-adds}

room_at : (c : goal.In-loop-k) → Room c.loop-k.w c.args.base c.args.acc
room_at c = record { block = omega (arith, c.requires.1.0, c.loop-k.invariant.frame.long); rows = omega (arith, c.requires.0, c.requires.1.0, c.loop-k.invariant.frame.long); apart = inl c.requires.0 }

pub loop-k-init : goal.loop-k-init
loop-k-init c = Thinning-start _ _ _ _ _ _ _ c.requires.1.1.0 c.requires.1.1.1.0

pub adds-requires : goal.adds-requires
adds-requires c = (room_at (goal.at.adds-requires c).In-loop-k, c.listed_arc-arc.ensures.target.1)

pub into-told-requires : goal.into-told-requires
into-told-requires c = let r = room_at (goal.at.into-told-requires c).In-loop-k in
    let l = c.adds.ensures.yes (subst T (sym c.if-adds.true) tt) in
    (l, (omega (arith, r.rows), omega (arith, r.block, c.listed_arc-arc.ensures.target.1)))

pub list_arc-requires : goal.list_arc-requires
list_arc-requires c = (omega (arith, c.loop-k.invariant.behind, c.loop-k-test.true, c.requires.1.1.1.1), c.listed_arc-arc.ensures.letter.1, c.listed_arc-arc.ensures.target.1, omega (arith, room_at (goal.at.list_arc-requires c).In-loop-k, c.into-told.ensures.kept.long))

pub loop-k-preserved : goal.loop-k-preserved
loop-k-preserved c = elim c.if-adds.branch [
  | then-adds w ↦ rw (w.w-is, w.told-is, w.end-is) (Thinning-more c.requires.0 c.loop-k-test.true c.requires.1.1.1.1 c.loop-k.invariant c.listed_arc-arc.ensures.letter.0 c.listed_arc-arc.ensures.target.0 w.into-told.result (c.adds.ensures.yes (subst T (sym w.if-adds.true) tt)) w.into-told.ensures.kept w.into-told.ensures.set w.list_arc.ensures.kept w.list_arc.ensures.listed)
  | else-adds w ↦ rw (w.w-is, w.told-is, w.end-is) (Thinning-skip c.requires.0 c.loop-k-test.true c.requires.1.1.1.1 c.loop-k.invariant c.listed_arc-arc.ensures.letter.0 c.listed_arc-arc.ensures.target.0 (c.adds.ensures.no (λ x. subst T w.if-adds.false x)))
]

pub returns : goal.returns
returns c = record { kept = c.loop-k.invariant.frame; place = (c.loop-k.invariant.low, omega (arith, c.loop-k.invariant.behind, c.loop-k.invariant.high)); rest = c.loop-k.invariant.rest; sound = thinned_sound c.loop-k-test.false c.loop-k.invariant; full = thinned_full c.loop-k-test.false c.loop-k.invariant }
