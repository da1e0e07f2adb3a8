use native.Mathlib.Omega.{arith}
use Rattle.table_sets.specs.Stepping.{Room}
use Rattle.table_sets.proofs.Laws.{block-kept, room-kept}
use Rattle.table_list_steps.proofs.VisitArcs.{Visiting-end, Visiting-more, Visiting-skip, Visiting-start}
use Rattle.table_list_steps.proofs.visit.Goals as goal
use Rattle.table_list_steps.proofs.visit.Goals.{In-loop-k, then-arc-lt64, else-arc-lt64}

room_at : (c : goal.In-loop-k) → Room c.loop-k.w c.args.base c.args.acc
room_at c = room-kept (block-kept c.loop-k.invariant.kept c.requires.1.apart) c.requires.1

pub loop-k-init : goal.loop-k-init
loop-k-init c = Visiting-start _ _ _ _ _ _

pub into-out-requires : goal.into-out-requires
into-out-requires c = let r = room_at (goal.at.into-out-requires c).In-loop-k in omega (arith, r.block, r.rows, c.listed_arc-arc.ensures.target.1)

pub loop-k-preserved : goal.loop-k-preserved
loop-k-preserved c = elim c.if-arc-lt64.branch [
  | then-arc-lt64 w ↦ rw (w.w-is, w.out-is) (Visiting-more c.requires.1 c.loop-k-test.true c.requires.0 c.loop-k.invariant c.listed_arc-arc.ensures.letter.0 c.listed_arc-arc.ensures.target.0 w.into-out.new.w w.into-out.result w.if-arc-lt64.true w.into-out.ensures.kept w.into-out.ensures.set)
  | else-arc-lt64 w ↦ rw (w.w-is, w.out-is) (Visiting-skip c.requires.1 c.loop-k-test.true c.requires.0 c.loop-k.invariant c.listed_arc-arc.ensures.letter.0 c.listed_arc-arc.ensures.target.0 w.if-arc-lt64.false)
]

pub returns : goal.returns
returns c = record { kept = c.loop-k.invariant.kept; set = Visiting-end c.loop-k-test.false c.loop-k.invariant }
