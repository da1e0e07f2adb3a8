use mathlib.Core.Path.{◌≡◌, refl}
use mathlib.Core.List.{List, [], flat_map}
use Prim.Native.Nat.{ℕ, ◌+◌, ◌-◌}
use native.Mathlib.Omega.{arith}
use lib.ListN.{drop}
use Rattle.automata.specs.Automaton.{Arc}
use Rattle.automata.specs.Joins.{arc_left}
use Rattle.relettering.specs.Relettering.{with_letters}
use Rattle.file_fields.specs.Parts.{arc_size}
use Rattle.format.specs.Decoding.{arc_of, arcs_of, automaton_of}
use Rattle.file_laws.proofs.Laws.{valid-arcs, valid-ranges}
use Rattle.join_parts.specs.OwnNumbers.{by_first}
use Rattle.join_parts.proofs.Laws.{ArcHere, valid-lengths, walk_here, walk-on, walk_start}
use Rattle.join_product_count.specs.ProductArcs.{beside_each, first_with, joint_with, numbers_by}
use Rattle.join_product_count.proofs.ArcGroups.{joint_group, left-group}
use Rattle.join_product_count.proofs.Uncounted.{Tallied-apart, Uncounted-all, Uncounted-less, Uncounted-none}
use Rattle.join_product_count.proofs.ProductArcLaws.{flat_next, flat_none}
use Rattle.join_product_count.proofs.count_first.Goals as goal
use Rattle.join_product_count.proofs.count_first.Goals.{In-loop-i}

-- the arc of this turn
here : (c : goal.In-loop-i) → ArcHere c.args.a c.args.first.now c.loop-i.from
here c = walk_here c.args.a c.args.first.now c.args.a.arcs c.loop-i._i c.loop-i.from c.loop-i-test.true c.loop-i.invariant.0

pub first_arc-from-requires : goal.first_arc-from-requires
first_arc-from-requires c = let r = valid-ranges _ _ c.requires.first in
    (r.letters, omega (arith, r.states))

pub loop-i-init : goal.loop-i-init
loop-i-init c = let e : c.args.a.arcs - 0 ≡ c.args.a.arcs = omega arith in
    (rw (e, c.first_arc-from.ensures) (walk_start _ _ c.requires.first), omega arith, omega arith, λ k. rw (e, c.first_arc-from.ensures) (Uncounted-all _))

pub count_joint-t-requires : goal.count_joint-t-requires
count_joint-t-requires c = let h = here c in
    record { counts = c.args.a; files = c.requires; whole = h.whole; lettered = h.fits.lettered; few_ops = h.fits.few_ops }

pub overflow_add-arcs : goal.overflow_add-arcs
overflow_add-arcs c = omega (arith, c.count_joint-t.ensures.1, c.loop-i.invariant.1, c.loop-i-test.true, (valid-ranges _ _ c.requires.first).arcs)

pub overflow_add-size : goal.overflow_add-size
overflow_add-size c = omega (arith, c.count_joint-t.ensures.1, c.loop-i.invariant.2, c.loop-i-test.true, (valid-ranges _ _ c.requires.first).arcs)

pub arc_size-from-requires : goal.arc_size-from-requires
arc_size-from-requires c = omega (arith, (here (goal.at.arc_size-from-requires c).In-loop-i).whole)

pub overflow_add-from : goal.overflow_add-from
overflow_add-from c = omega (arith, (here (goal.at.overflow_add-from c).In-loop-i).whole, c.arc_size-from.ensures.0)

pub loop-i-preserved : goal.loop-i-preserved
loop-i-preserved c = let g : ℕ → Arc → List Arc = λ k. first_with c.args.b.states k (by_first c.args.first.now c.args.others.now c.args.second.now).arcs in
    let arc = drop c.loop-i.from c.args.first.now in (
      rw c.arc_size-from.ensures.0 (walk-on c.args.a c.args.first.now c.args.a.arcs c.loop-i._i c.loop-i.from c.loop-i-test.true c.loop-i.invariant.0),
      omega (arith, c.count_joint-t.ensures.1, c.loop-i.invariant.1),
      omega (arith, c.count_joint-t.ensures.1, c.loop-i.invariant.2),
      λ k. rw c.arc_size-from.ensures.0
          (Uncounted-less (g k (arc_of arc)) (flat_map (g k) (arcs_of (c.args.a.arcs - (c.loop-i._i + 1)) (drop (c.loop-i.from + arc_size arc) c.args.first.now))) (c.count_joint-t.ensures.0 k) (rw (flat_next (g k) c.args.a c.args.first.now c.args.a.arcs c.loop-i._i c.loop-i.from c.loop-i-test.true) at (c.loop-i.invariant.3 k))),
    )

pub returns : goal.returns
unfolding with_letters
returns c = let x = automaton_of c.args.first.now in
    let y = automaton_of c.args.second.now in
    let new = numbers_by c.args.first.now c.args.others.now in
    let k = x.registers - 1 in
    let ys = (by_first c.args.first.now c.args.others.now c.args.second.now).arcs in
    let states = (valid-lengths _ _ c.requires.second).1 in
    let r = valid-ranges _ _ c.requires.first in
    let all = Uncounted-none (rw (flat_none (first_with c.args.b.states k ys) c.args.a c.args.first.now c.args.a.arcs c.loop-i._i c.loop-i.from c.loop-i-test.false) at (c.loop-i.invariant.3 k)) in (
      rw (joint_group x y new [] states refl, left-group x y new [] states) (Tallied-apart (joint_with c.args.b.states k ys) (beside_each (arc_left c.args.b.states) c.args.b.states) x.arcs (rw (valid-arcs _ _ c.requires.first) all)),
      omega (arith, r.arcs),
      omega (arith, r.arcs),
    )
