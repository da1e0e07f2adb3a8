use mathlib.Core.Path.{◌≡◌, ◌∙◌, sym}
use mathlib.Core.List.{◌++◌, map}
use Prim.Native.Nat.{◌+◌, ◌-◌}
use native.Mathlib.Omega.{arith}
use lib.ListN.{drop, get_or}
use Rattle.automata.specs.Lists.{count_from}
use Rattle.file_fields.specs.Parts.{arc_size, first_arc}
use Rattle.format.specs.Decoding.{arc_of, arcs_of}
use Rattle.format.specs.Encoding.{arcs_bytes}
use Rattle.file_laws.proofs.Laws.{valid-arcs, valid-ranges}
use Rattle.file_writing.proofs.Laws.{Left, arcs-append, left-all, left-fits, left_less, left-none}
use Rattle.join_parts.proofs.Laws.{ArcHere, walk_here, walk-on, walk_start}
use Rattle.join_product_count.specs.ProductArcs.{empty_with}
use Rattle.join_product_arcs.specs.JointArcs.{beside_arc}
use Rattle.join_product_count.proofs.Laws.{empty-next, empty-none, empty-skip}
use Rattle.join_product_arcs.proofs.beside.write_empty_moves.Goals as goal
use Rattle.join_product_arcs.proofs.beside.write_empty_moves.Goals.{In-loop-i, then-byte-eq255, else-byte-eq255}

-- the arc of this turn
here : (c : goal.In-loop-i) → ArcHere c.args.c c.args.file.now c.loop-i.from
here c = walk_here c.args.c c.args.file.now c.args.c.arcs c.loop-i._i c.loop-i.from c.loop-i-test.true c.loop-i.invariant.0

-- an empty move is written in this turn
turn : (c : goal.In-loop-i) → get_or c.args.file.now (c.loop-i.from + 1) 0 ≡ 255 → let f = beside_arc c.args.b in let arc = drop c.loop-i.from c.args.file.now in
    Left c.args.at (arcs_bytes (empty_with f c.args.b.states (arcs_of c.args.c.arcs (drop (first_arc c.args.c) c.args.file.now)))) c.args.out.now c.loop-i.to
    (arcs_bytes (map (f (arc_of arc)) (count_from 0 c.args.b.states)) ++ arcs_bytes (empty_with f c.args.b.states (arcs_of (c.args.c.arcs - (c.loop-i._i + 1)) (drop (c.loop-i.from + arc_size arc) c.args.file.now)))) c.loop-i.out
turn c e = let f = beside_arc c.args.b in
    let arc = drop c.loop-i.from c.args.file.now in
    rw (empty-next f c.args.b.states c.args.c c.args.file.now c.args.c.arcs c.loop-i._i c.loop-i.from c.loop-i-test.true e, arcs-append (map (f (arc_of arc)) (count_from 0 c.args.b.states)) (empty_with f c.args.b.states (arcs_of (c.args.c.arcs - (c.loop-i._i + 1)) (drop (c.loop-i.from + arc_size arc) c.args.file.now)))) at c.loop-i.invariant.1

pub first_arc-from-requires : goal.first_arc-from-requires
first_arc-from-requires c = let r = valid-ranges _ _ c.requires.0 in
    (r.letters, omega (arith, r.states))

pub loop-i-init : goal.loop-i-init
loop-i-init c = let e : c.args.c.arcs - 0 ≡ c.args.c.arcs = omega arith in
    (rw (e, c.first_arc-from.ensures) (walk_start _ _ c.requires.0), rw (e, c.first_arc-from.ensures) (left-all (rw (valid-arcs _ _ c.requires.0) at c.requires.3)))

pub overflow_add-from : goal.overflow_add-from
overflow_add-from c = omega (arith, (here c).whole)

pub byte-requires : goal.byte-requires
byte-requires c = omega (arith, (here c).whole)

pub write_beside_each-to-requires : goal.write_beside_each-to-requires
write_beside_each-to-requires c = let h = here (goal.at.write_beside_each-to-requires c).In-loop-i in
    let arc = drop c.loop-i.from c.args.file.now in
    (h.whole, λ j k. c.requires.1 (arc_of arc).source j h.fits.source k, λ j k. c.requires.1 (arc_of arc).target j h.fits.target k, c.requires.2, left-fits (arcs_bytes (map (beside_arc c.args.b (arc_of arc)) (count_from 0 c.args.b.states))) _ (turn (goal.at.write_beside_each-to-requires c).In-loop-i (sym c.byte.ensures.0 ∙ c.if-byte-eq255.true)), h.kinds)

pub arc_size-from-requires : goal.arc_size-from-requires
arc_size-from-requires c = omega (arith, (here (goal.at.arc_size-from-requires c).In-loop-i).whole)

pub overflow_add-from-in-loop-i : goal.overflow_add-from-in-loop-i
overflow_add-from-in-loop-i c = omega (arith, (here (goal.at.overflow_add-from-in-loop-i c).In-loop-i).whole, c.arc_size-from.ensures.0)

pub loop-i-preserved : goal.loop-i-preserved
loop-i-preserved c = let on = walk-on c.args.c c.args.file.now c.args.c.arcs c.loop-i._i c.loop-i.from c.loop-i-test.true c.loop-i.invariant.0 in
    elim c.if-byte-eq255.branch [
      | then-byte-eq255 w ↦ (
        rw c.arc_size-from.ensures.0 on,
        rw (w.out-is, w.to-is, c.arc_size-from.ensures.0) (left_less _ (turn (goal.at.loop-i-preserved c).In-loop-i (sym c.byte.ensures.0 ∙ w.if-byte-eq255.true)) w.write_beside_each-to.ensures),
      )
      | else-byte-eq255 w ↦ (
        rw c.arc_size-from.ensures.0 on,
        rw (w.out-is, w.to-is, c.arc_size-from.ensures.0) (rw (empty-skip (beside_arc c.args.b) c.args.b.states c.args.c c.args.file.now c.args.c.arcs c.loop-i._i c.loop-i.from c.loop-i-test.true (λ d. w.if-byte-eq255.false (c.byte.ensures.0 ∙ d))) at c.loop-i.invariant.1),
      )
    ]

pub returns : goal.returns
unfolding arcs_bytes
returns c = rw (valid-arcs _ _ c.requires.0) (left-none (rw (empty-none (beside_arc c.args.b) c.args.b.states c.args.c c.args.file.now c.args.c.arcs c.loop-i._i c.loop-i.from c.loop-i-test.false) at c.loop-i.invariant.1))
