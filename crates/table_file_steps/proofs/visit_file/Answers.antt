use mathlib.Core.Logic.{inr}
use native.Mathlib.Omega.{arith}
use Rattle.table_sets.proofs.Laws.{room-kept}
use Rattle.table_file_steps.proofs.VisitFile.{arc-here, findable-kept, Following-end, Following-less, Following-more, Following-start, map-kept}
use Rattle.table_file_steps.proofs.visit_file.Goals as goal

-- the state of configuration c is below 256
pub get16-j-requires : goal.get16-j-requires
get16-j-requires c = omega (arith, c.state_of.ensures, c.requires.c_lt_count.1.1.1.configured.small c.args.c c.requires.c_lt_count.0, c.requires.c_lt_count.1.0, c.requires.c_lt_count.1.1.0.rows)

pub loop-j-init : goal.loop-j-init
loop-j-init c = Following-start _ _ _ _ c.requires.walkable.1.0 c.requires.walkable.1.1 (omega (arith, c.requires.c_lt_count.1.1.1.configured.small c.args.c c.requires.c_lt_count.0)) (rw c.state_of.ensures at c.get16-j.ensures.0)

pub take_arc-out-requires : goal.take_arc-out-requires
take_arc-out-requires c = let same = map-kept c.args.block (inr c.requires.c_lt_count.1.0) c.requires.c_lt_count.1.1.0.apart c.requires.c_lt_count.1.1.1.configured.few c.loop-j.invariant.kept in
    (arc-here c.loop-j.invariant c.requires.walkable.0 c.requires.walkable.1.0 c.requires.walkable.1.1 c.requires.c_lt_count.1.0 c.loop-j-test.true c.get16-at.ensures.0, (c.requires.c_lt_count.1.0, (room-kept same.rows c.requires.c_lt_count.1.1.0, findable-kept same c.requires.c_lt_count.1.1.1)))

pub loop-j-smaller : goal.loop-j-smaller
loop-j-smaller c = Following-less c.loop-j.invariant c.requires.walkable.0 c.requires.walkable.1.0 c.requires.walkable.1.1 c.requires.c_lt_count.1.0 c.loop-j-test.true c.get16-at.ensures.0 c.get16-j-in-loop-j.ensures.0

pub loop-j-preserved : goal.loop-j-preserved
loop-j-preserved c = Following-more c.loop-j.invariant c.requires.walkable.0 c.requires.walkable.1.0 c.requires.walkable.1.1 c.requires.c_lt_count.1.0 c.loop-j-test.true c.get16-at.ensures.0 c.get16-j-in-loop-j.ensures.0
    c.take_arc-out.result c.take_arc-out.ensures.kept c.requires.c_lt_count.1.1.0 c.requires.c_lt_count.1.1.1.configured.few c.take_arc-out.ensures.set

pub returns : goal.returns
returns c = record { kept = c.loop-j.invariant.kept; set = Following-end c.loop-j.invariant c.requires.walkable.0 c.requires.walkable.1.0 c.requires.walkable.1.1 c.requires.c_lt_count.1.0 c.loop-j-test.false }
