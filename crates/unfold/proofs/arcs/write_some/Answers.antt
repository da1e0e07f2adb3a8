use mathlib.Core.List.{◌++◌, map}
use Prim.Native.Nat.{◌+◌}
use native.Mathlib.Omega.{arith}
use Rattle.automata.specs.Unfolding.{as_arc}
use Rattle.format.specs.Encoding.{arc_bytes, arcs_bytes}
use Rattle.file_arc_writing.proofs.Laws.{arc-length}
use Rattle.file_writing.proofs.Laws.{Left, left-fits, left_less, left-none}
use Rattle.table.specs.Face.{plain_at, plains_between}
use Rattle.unfold.proofs.ListedBytes.{listed_next, listed-none}
use Rattle.unfold.proofs.arcs.write_some.Goals as goal
use Rattle.unfold.proofs.arcs.write_some.Goals.{In-loop-i}

-- the arc of this turn is the first that is left
turn : (c : goal.In-loop-i) → Left c.args.at (arcs_bytes (map as_arc (plains_between c.args.w.now c.args.block c.args.source c.args.from c.args.to))) c.args.out.now c.loop-i.next
    (arc_bytes (as_arc (plain_at c.args.w.now c.args.block c.args.source c.loop-i.i)) ++ arcs_bytes (map as_arc (plains_between c.args.w.now c.args.block c.args.source (c.loop-i.i + 1) c.args.to))) c.loop-i.out
turn c = rw (listed_next c.args.w.now c.args.block c.args.source c.loop-i.i c.args.to c.loop-i-test.true) at c.loop-i.invariant

pub write_plain_arc-next-requires : goal.write_plain_arc-next-requires
write_plain_arc-next-requires c = let x = as_arc (plain_at c.args.w.now c.args.block c.args.source c.loop-i.i) in
    let room = left-fits (arc_bytes x) _ (turn (goal.at.write_plain_arc-next-requires c).In-loop-i) in
    (record { source = omega (arith, c.requires.0); letter = c.plain_arc-arc.ensures.small.0; target = c.plain_arc-arc.ensures.small.1 }, omega (arith, arc-length x))

pub loop-i-preserved : goal.loop-i-preserved
loop-i-preserved c = left_less {bytes = arc_bytes (as_arc (plain_at c.args.w.now c.args.block c.args.source c.loop-i.i))} _ (turn (goal.at.loop-i-preserved c).In-loop-i) (rw (c.plain_arc-arc.ensures.arc c.args.source) c.write_plain_arc-next.ensures)

pub returns : goal.returns
returns c = left-none (rw (listed-none c.args.w.now c.args.block c.args.source c.loop-i.i c.args.to c.loop-i-test.false) at c.loop-i.invariant)
