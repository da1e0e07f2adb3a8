use mathlib.Core.List.{◌++◌, map}
use Prim.Native.Nat.{◌+◌, ◌-◌}
use native.Mathlib.Omega.{arith}
use Rattle.automata.specs.Unfolding.{as_arc}
use Rattle.format.specs.Encoding.{arcs_bytes}
use Rattle.file_writing.proofs.Laws.{Left, left-fits, left_less, left-none}
use Rattle.table.specs.Face.{plains_leaving, plains_of_many}
use Rattle.unfold.proofs.ListedBytes.{many-next, many-none}
use Rattle.unfold.proofs.arcs.write_arcs.Goals as goal
use Rattle.unfold.proofs.arcs.write_arcs.Goals.{In-loop-s}

-- the arcs of this turn's configuration are the first that are left
turn : (c : goal.In-loop-s) → Left c.args.at (arcs_bytes (map as_arc (plains_of_many c.args.w.now c.args.block 0 c.args.block.count))) c.args.out.now c.loop-s.next
    (arcs_bytes (map as_arc (plains_leaving c.args.w.now c.args.block c.loop-s.s)) ++ arcs_bytes (map as_arc (plains_of_many c.args.w.now c.args.block (c.loop-s.s + 1) (c.args.block.count - (c.loop-s.s + 1))))) c.loop-s.out
turn c = rw (many-next c.args.w.now c.args.block c.args.block.count c.loop-s.s c.loop-s-test.true) at c.loop-s.invariant

pub write_some-next-requires : goal.write_some-next-requires
write_some-next-requires c = let room = left-fits (arcs_bytes (map as_arc (plains_leaving c.args.w.now c.args.block c.loop-s.s))) _ (turn (goal.at.write_some-next-requires c).In-loop-s) in
    (omega (arith, c.loop-s-test.true), rw c.plain_end-to.ensures (c.requires.2 c.loop-s.s c.loop-s-test.true), c.requires.1, rw (c.plain_start-from.ensures, c.plain_end-to.ensures) room)

pub loop-s-preserved : goal.loop-s-preserved
loop-s-preserved c = left_less _ (turn (goal.at.loop-s-preserved c).In-loop-s) (rw (c.plain_start-from.ensures, c.plain_end-to.ensures) at c.write_some-next.ensures)

pub returns : goal.returns
returns c = left-none (rw (many-none c.args.w.now c.args.block c.args.block.count c.loop-s.s c.loop-s-test.false) at c.loop-s.invariant)
