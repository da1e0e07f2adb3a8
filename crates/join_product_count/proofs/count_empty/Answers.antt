use mathlib.Core.Path.{◌≡◌, ◌∙◌, sym}
use mathlib.Core.List.{map}
use Prim.Native.Nat.{◌-◌, ◌*◌, ◌<◌, ◌≤◌}
use native.Mathlib.Omega.{arith}
use native.Mathlib.Nat.{mul-le-mul_left}
use lib.ListN.{drop, get_or}
use Rattle.automata.specs.Lists.{count_from}
use Rattle.format.specs.Decoding.{arc_of}
use Rattle.file_laws.proofs.Laws.{valid-arcs, valid-ranges}
use Rattle.join_parts.proofs.Laws.{ArcHere, walk_here, walk-on, walk_start}
use Rattle.join_product_count.proofs.Uncounted.{Uncounted-all, Uncounted-less, Uncounted-none, all-tallied}
use Rattle.join_product_count.proofs.ProductArcLaws.{ops-here, empty-next, empty-skip, empty-none}
use Rattle.join_product_count.proofs.count_empty.Goals as goal
use Rattle.join_product_count.proofs.count_empty.Goals.{After-arc_size-bytes, In-loop-i, then-byte-eq255, else-byte-eq255}

-- the arc of this turn
here : (c : goal.In-loop-i) → ArcHere c.args.c c.args.file.now c.loop-i.from
here c = walk_here c.args.c c.args.file.now c.args.c.arcs c.loop-i._i c.loop-i.from c.loop-i-test.true c.loop-i.invariant.0

-- the numbers of this turn are small
bounds : (c : goal.After-arc_size-bytes) → (c.args.n ≤ 256) × (c.args.n * c.arc_size-bytes.result ≤ 131840) × (c.loop-i.arcs ≤ 256 * c.loop-i._i) × (c.loop-i.size ≤ 131840 * c.loop-i._i) × (c.loop-i._i < 2048)
bounds c = let h : c.arc_size-bytes.result ≤ 515 = omega (arith, c.arc_size-bytes.ensures.1) in
    (c.requires.1, omega (arith, mul-le-mul_left c.args.n h, c.requires.1), c.loop-i.invariant.1, c.loop-i.invariant.2, omega (arith, c.loop-i-test.true, (valid-ranges _ _ c.requires.0).arcs))

pub first_arc-from-requires : goal.first_arc-from-requires
first_arc-from-requires c = let r = valid-ranges _ _ c.requires.0 in
    (r.letters, omega (arith, r.states))

pub loop-i-init : goal.loop-i-init
loop-i-init c = let e : c.args.c.arcs - 0 ≡ c.args.c.arcs = omega arith in
    (rw (e, c.first_arc-from.ensures) (walk_start _ _ c.requires.0), omega arith, omega arith, λ f k. rw (e, c.first_arc-from.ensures) (Uncounted-all _))

pub arc_size-bytes-requires : goal.arc_size-bytes-requires
arc_size-bytes-requires c = omega (arith, (here c).whole)

pub overflow_add-from : goal.overflow_add-from
overflow_add-from c = omega (arith, (here (goal.at.overflow_add-from c).In-loop-i).whole)

pub byte-requires : goal.byte-requires
byte-requires c = omega (arith, (here (goal.at.byte-requires c).In-loop-i).whole)

pub overflow_add-arcs : goal.overflow_add-arcs
overflow_add-arcs c = omega (arith, bounds (goal.at.overflow_add-arcs c).After-arc_size-bytes)

pub overflow_mul-size : goal.overflow_mul-size
overflow_mul-size c = omega (arith, bounds (goal.at.overflow_mul-size c).After-arc_size-bytes)

pub overflow_add-size : goal.overflow_add-size
overflow_add-size c = omega (arith, bounds (goal.at.overflow_add-size c).After-arc_size-bytes)

pub overflow_add-from-in-loop-i : goal.overflow_add-from-in-loop-i
overflow_add-from-in-loop-i c = omega (arith, (here (goal.at.overflow_add-from-in-loop-i c).In-loop-i).whole, c.arc_size-bytes.ensures.0)

pub loop-i-preserved : goal.loop-i-preserved
loop-i-preserved c = let arc = drop c.loop-i.from c.args.file.now in
    let on = walk-on c.args.c c.args.file.now c.args.c.arcs c.loop-i._i c.loop-i.from c.loop-i-test.true c.loop-i.invariant.0 in
    let b = bounds (goal.at.loop-i-preserved c).After-arc_size-bytes in
    elim c.if-byte-eq255.branch [
      | then-byte-eq255 w ↦ (
        rw c.arc_size-bytes.ensures.0 on,
        omega (arith, w.arcs-is, b),
        omega (arith, w.size-is, b),
        λ f k. rw (w.arcs-is, w.size-is, c.arc_size-bytes.ensures.0)
            (Uncounted-less (map (f (arc_of arc)) (count_from 0 c.args.n)) _ (all-tallied (f (arc_of arc)) (get_or arc 3 0) (λ j. k (arc_of arc) j ∙ ops-here arc) (omega (arith, (here (goal.at.loop-i-preserved c).In-loop-i).fits.few_ops, ops-here arc)) 0 c.args.n)
            (rw (empty-next f c.args.n c.args.c c.args.file.now c.args.c.arcs c.loop-i._i c.loop-i.from c.loop-i-test.true (sym c.byte.ensures.0 ∙ w.if-byte-eq255.true)) at (c.loop-i.invariant.3 f k))),
      )
      | else-byte-eq255 w ↦ (
        rw c.arc_size-bytes.ensures.0 on,
        omega (arith, w.arcs-is, b),
        omega (arith, w.size-is, b),
        λ f k. rw (w.arcs-is, w.size-is, c.arc_size-bytes.ensures.0) (rw (empty-skip f c.args.n c.args.c c.args.file.now c.args.c.arcs c.loop-i._i c.loop-i.from c.loop-i-test.true (λ d. w.if-byte-eq255.false (c.byte.ensures.0 ∙ d))) at (c.loop-i.invariant.3 f k)),
      )
    ]

pub returns : goal.returns
returns c = let r = valid-ranges _ _ c.requires.0 in (
  λ f k. rw (valid-arcs _ _ c.requires.0) (Uncounted-none (rw (empty-none f c.args.n c.args.c c.args.file.now c.args.c.arcs c.loop-i._i c.loop-i.from c.loop-i-test.false) at (c.loop-i.invariant.3 f k))),
  omega (arith, r.arcs),
  omega (arith, r.arcs),
)
