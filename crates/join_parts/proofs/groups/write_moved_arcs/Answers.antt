use mathlib.Core.Path.{◌≡◌}
use mathlib.Core.List.{map, ◌++◌}
use Prim.Native.Nat.{◌-◌, ◌+◌}
use native.Mathlib.Omega.{arith}
use lib.ListN.{drop}
use Rattle.automata.specs.Joins.{moved_arc}
use Rattle.format.specs.Encoding.{arcs_bytes, arc_bytes}
use Rattle.format.specs.Decoding.{arcs_of, arc_of}
use Rattle.file_fields.specs.Parts.{arc_size, first_arc}
use Rattle.file_laws.proofs.Laws.{valid-arcs, valid-ranges}
use Rattle.file_writing.proofs.Laws.{Left, left-all, left-fits, left_less, left-none}
use Rattle.join_parts.proofs.ArcLengths.{moved_length, read_length}
use Rattle.join_parts.proofs.ArcWalk.{ArcHere, mapped_next, mapped_none, walk_here, walk-on, walk_start}
use Rattle.join_parts.proofs.groups.write_moved_arcs.Goals as goal
use Rattle.join_parts.proofs.groups.write_moved_arcs.Goals.{In-loop-i}

-- the arc of this turn, and what is left to write
here : (c : goal.In-loop-i) → ArcHere c.args.c c.args.file.now c.loop-i.from
here c = walk_here c.args.c c.args.file.now c.args.c.arcs c.loop-i._i c.loop-i.from c.loop-i-test.true c.loop-i.invariant.0

turn : (c : goal.In-loop-i) → Left c.args.at (arcs_bytes (map (moved_arc c.args.s c.args.k) (arcs_of c.args.c.arcs (drop (first_arc c.args.c) c.args.file.now)))) c.args.out.now c.loop-i.to
    (arc_bytes (moved_arc c.args.s c.args.k (arc_of (drop c.loop-i.from c.args.file.now)))
    ++ arcs_bytes (map (moved_arc c.args.s c.args.k) (arcs_of (c.args.c.arcs - (c.loop-i._i + 1)) (drop (c.loop-i.from + arc_size (drop c.loop-i.from c.args.file.now)) c.args.file.now)))) c.loop-i.out
turn c = rw (mapped_next c.args.c c.args.file.now c.args.c.arcs c.loop-i._i c.loop-i.from (moved_arc c.args.s c.args.k) c.loop-i-test.true) at c.loop-i.invariant.1

pub first_arc-from-requires : goal.first_arc-from-requires
first_arc-from-requires c = let r = valid-ranges _ _ c.requires.0 in
    (r.letters, omega (arith, r.states))

pub loop-i-init : goal.loop-i-init
loop-i-init c = let e : c.args.c.arcs - 0 ≡ c.args.c.arcs = omega arith in
    (rw (e, c.first_arc-from.ensures) (walk_start _ _ c.requires.0), rw (e, c.first_arc-from.ensures) (left-all (rw (valid-arcs _ _ c.requires.0) at c.requires.3)))

pub write_moved_arc-to-requires : goal.write_moved_arc-to-requires
write_moved_arc-to-requires c = let h = here (goal.at.write_moved_arc-to-requires c).In-loop-i in
    let arc = drop c.loop-i.from c.args.file.now in
    let room = left-fits (arc_bytes (moved_arc c.args.s c.args.k (arc_of arc))) _ (turn (goal.at.write_moved_arc-to-requires c).In-loop-i) in (
      h.whole,
      omega (arith, h.fits.source, c.requires.1),
      omega (arith, h.fits.target, c.requires.1),
      c.requires.2,
      omega (arith, moved_length c.args.s c.args.k (arc_of arc), read_length arc),
      h.kinds,
    )

pub arc_size-from-requires : goal.arc_size-from-requires
arc_size-from-requires c = omega (arith, (here (goal.at.arc_size-from-requires c).In-loop-i).whole)

pub overflow_add-from : goal.overflow_add-from
overflow_add-from c = omega (arith, (here (goal.at.overflow_add-from c).In-loop-i).whole, c.arc_size-from.ensures.0)

pub loop-i-preserved : goal.loop-i-preserved
loop-i-preserved c = (
  rw c.arc_size-from.ensures.0 (walk-on c.args.c c.args.file.now c.args.c.arcs c.loop-i._i c.loop-i.from c.loop-i-test.true c.loop-i.invariant.0),
  rw c.arc_size-from.ensures.0 (left_less _ (turn (goal.at.loop-i-preserved c).In-loop-i) c.write_moved_arc-to.ensures),
)

pub returns : goal.returns
returns c = let none = mapped_none c.args.c c.args.file.now c.args.c.arcs c.loop-i._i c.loop-i.from (moved_arc c.args.s c.args.k) c.loop-i-test.false in
    rw (valid-arcs _ _ c.requires.0) (left-none (rw none at c.loop-i.invariant.1))
