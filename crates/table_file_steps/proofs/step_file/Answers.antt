use mathlib.Core.Logic.{inr}
use native.Mathlib.Omega.{arith}
use Rattle.table_operations.proofs.Laws.{indexed-kept, linked-kept}
use Rattle.table_file_steps.specs.FileSteps.{FromFile}
use Rattle.table_sets.proofs.Laws.{room-kept, stepped, Stepping-more, Stepping-start}
use Rattle.table_file_steps.proofs.VisitFile.{findable-kept, from-kept, map-kept}
use Rattle.table_file_steps.proofs.step_file.Goals as goal

pub loop-c-init : goal.loop-c-init
loop-c-init c = Stepping-start _ _ _ c.next_live-c.ensures

pub visit_file-met-requires : goal.visit_file-met-requires
visit_file-met-requires c = let same = map-kept c.args.block (inr c.requires.map_end_le_acc.0) c.requires.map_end_le_acc.1.0.apart c.requires.map_end_le_acc.1.1.configured.few c.loop-c.invariant.kept in record { walkable = (c.requires.walkable.0, (indexed-kept c.args.w.now c.loop-c.w c.requires.walkable.0 (λ j g h. same.words j g (omega arith)) c.requires.walkable.1.0, linked-kept c.args.w.now c.loop-c.w c.requires.walkable.0 (λ j g h. same.words j g (omega arith)) c.requires.walkable.1.1)); c_lt_count = (c.loop-c-test.true, (c.requires.map_end_le_acc.0, (room-kept same.rows c.requires.map_end_le_acc.1.0, findable-kept same c.requires.map_end_le_acc.1.1))) }

pub loop-c-preserved : goal.loop-c-preserved
loop-c-preserved c = Stepping-more (FromFile c.args.file.now c.args.counts c.args.w.now c.args.block)
    {Own = FromFile c.args.file.now c.args.counts c.loop-c.w c.args.block c.loop-c.c} c.visit_file-met.result (omega (arith, c.loop-c-test.true, c.requires.map_end_le_acc.1.1.configured.few)) c.loop-c.invariant
    c.visit_file-met.ensures.kept c.visit_file-met.ensures.set
    (from-kept (map-kept c.args.block (inr c.requires.map_end_le_acc.0) c.requires.map_end_le_acc.1.0.apart c.requires.map_end_le_acc.1.1.configured.few c.loop-c.invariant.kept) c.args.file.now c.args.counts c.loop-c.c c.loop-c-test.true)
    c.next_live-c-in-loop-c.ensures

pub returns : goal.returns
returns c = record { kept = c.loop-c.invariant.kept; set = stepped _ c.loop-c-test.false c.loop-c.invariant }
