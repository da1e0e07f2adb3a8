use native.Mathlib.Omega.{arith}
use mathlib.Core.Path.{◌≡◌}
use Prim.Native.Nat.{suc, ◌-◌}
use Rattle.table_operations.proofs.ArcPlaces.{Indexing, first-arc, Indexing-start, Indexing-more, Indexing-end, walkable-arcs}
use Rattle.table_operations.proofs.arcs.index_arcs.Goals as goal
use Rattle.table_operations.proofs.arcs.index_arcs.Goals.{In-loop-i}

pub loop-i-init : goal.loop-i-init
loop-i-init c = rw c.first_arc-at.ensures (Indexing-start _ _ _ _ (walkable-arcs c.requires.0))

-- the invariant of a turn, with its i as a successor
turn : (c : goal.In-loop-i) → Indexing c.args.file.now c.args.w.now c.first_arc-at.result c.args.counts.arcs c.loop-i.w c.loop-i.at (suc (c.loop-i.i - 1))
turn c = let e : c.loop-i.i ≡ suc (c.loop-i.i - 1) = omega arith in rw (← e) c.loop-i.invariant

pub put16-requires : goal.put16-requires
put16-requires c = omega (arith, c.first_arc-at.ensures, c.loop-i.invariant.few, c.loop-i.invariant.near, c.loop-i.invariant.kept.long, c.requires.0.letters, c.requires.0.states, c.requires.0.lies.few)

pub byte-requires : goal.byte-requires
byte-requires c = omega (arith, (first-arc _ _ _ (turn (goal.at.byte-requires c).In-loop-i).arcs).fits)

pub overflow_add-at : goal.overflow_add-at
overflow_add-at c = omega (arith, (first-arc _ _ _ (turn (goal.at.overflow_add-at c).In-loop-i).arcs).fits)

pub overflow_add-at-in-loop-i-2 : goal.overflow_add-at-in-loop-i-2
overflow_add-at-in-loop-i-2 c = omega (arith, (first-arc _ _ _ (turn (goal.at.overflow_add-at-in-loop-i-2 c).In-loop-i).arcs).fits)

pub loop-i-preserved : goal.loop-i-preserved
loop-i-preserved c = rw c.byte.ensures.0 (Indexing-more c.requires.0.lies.few c.put16.ensures.kept c.put16.ensures.set (turn (goal.at.loop-i-preserved c).In-loop-i))

pub shape_of-w : goal.shape_of-w
shape_of-w c = c.loop-i.invariant.kept.long

pub returns : goal.returns
returns c = record { kept = c.loop-i.invariant.kept; indexed = rw c.first_arc-at.ensures at (Indexing-end (omega arith) c.loop-i.invariant) }
