use native.Mathlib.Omega.{arith}
use Rattle.table_sets.specs.Stepping.{Among, FromList, Room}
use Rattle.table_sets.proofs.Laws.{block-kept, end-few, end_kept, list-kept, room-kept, stepped, Stepping-more, Stepping-start}
use Rattle.table_list_steps.proofs.step.Goals as goal
use Rattle.table_list_steps.proofs.step.Goals.{In-loop-c}

room_at : (c : goal.In-loop-c) → Room c.loop-c.w c.args.block.base c.args.acc
room_at c = room-kept (block-kept c.loop-c.invariant.kept c.requires.0.apart) c.requires.0

pub loop-c-init : goal.loop-c-init
loop-c-init c = Stepping-start _ _ _ c.next_live-c.ensures

pub first_arc-from-requires : goal.first_arc-from-requires
first_arc-from-requires c = omega (arith, room_at c, c.requires.1.few)

pub end_of-to-requires : goal.end_of-to-requires
end_of-to-requires c = omega (arith, room_at (goal.at.end_of-to-requires c).In-loop-c, c.requires.1.few)

pub visit-met-requires : goal.visit-met-requires
visit-met-requires c = (omega (arith, c.end_of-to.ensures, end_kept (block-kept c.loop-c.invariant.kept c.requires.0.apart) c.args.block.count c.args.block.plain c.loop-c.c c.requires.1.few, end-few c.loop-c.c c.requires.1), room_at (goal.at.visit-met-requires c).In-loop-c)

pub loop-c-preserved : goal.loop-c-preserved
loop-c-preserved c = Stepping-more (FromList c.args.w.now c.args.block.base c.args.block.count c.args.block.plain)
    {Own = Among c.loop-c.w c.args.block.base c.first_arc-from.result c.end_of-to.result} c.visit-met.result (omega (arith, c.loop-c-test.true, c.requires.1.few)) c.loop-c.invariant c.visit-met.ensures.kept c.visit-met.ensures.set
    (list-kept (block-kept c.loop-c.invariant.kept c.requires.0.apart) c.loop-c.c c.requires.1 c.loop-c-test.true c.first_arc-from.ensures c.end_of-to.ensures)
    c.next_live-c-in-loop-c.ensures

pub returns : goal.returns
returns c = record { kept = c.loop-c.invariant.kept; set = λ letters arcs t. stepped _ c.loop-c-test.false c.loop-c.invariant letters arcs (t.held c.requires.1.less) }
