use mathlib.Core.Path.{◌≡◌, ◌∙◌, ap, sym}
use mathlib.Core.List.{List, [], ◌++◌, flat_map}
use Prim.Native.Nat.{◌+◌, ◌-◌}
use native.Mathlib.Omega.{arith}
use lib.ListN.{drop}
use Rattle.automata.specs.Automaton.{Arc}
use Rattle.automata.specs.Joins.{both_arcs}
use Rattle.relettering.specs.Relettering.{with_letters}
use Rattle.file_fields.specs.declared.Counts.{Counts}
use Rattle.file_fields.specs.Parts.{arc_size, first_arc}
use Rattle.format.specs.Decoding.{arc_of, arcs_of, automaton_of}
use Rattle.format.specs.Encoding.{arcs_bytes}
use Rattle.file_laws.proofs.Laws.{valid-arcs, valid-ranges, valid-sizes}
use Rattle.file_writing.proofs.Laws.{Left, arcs-append, left-all, left-fits, left_less, left-none}
use Rattle.join_parts.specs.OwnNumbers.{by_first}
use Rattle.join_parts.proofs.Laws.{ArcHere, valid-lengths, walk_here, walk-on, walk_start}
use Rattle.join_product_count.specs.ProductArcs.{joint_with, numbers_by}
use Rattle.join_product_count.proofs.Laws.{flat_next, flat_none, joint_group}
use Rattle.join_product_arcs.proofs.PairNumber.{row_below}
use Rattle.join_product_arcs.proofs.joint.write_joint_arcs.Goals as goal
use Rattle.join_product_arcs.proofs.joint.write_joint_arcs.Goals.{In-loop-i, Start}

-- what an arc of the first gives, and that all that they give are the joint arcs
abbrev joints : goal.Start → Arc → List Arc
joints s = joint_with s.args.b.states s.args.k (by_first s.args.first.now s.args.others.now s.args.second.now).arcs

all : (s : goal.Start) → both_arcs (automaton_of s.args.first.now) (by_first s.args.first.now s.args.others.now s.args.second.now) ≡ flat_map (joints s) (arcs_of s.args.a.arcs (drop (first_arc s.args.a) s.args.first.now))
unfolding with_letters
all s = joint_group (automaton_of s.args.first.now) (automaton_of s.args.second.now) (numbers_by s.args.first.now s.args.others.now) [] (valid-lengths _ _ s.requires.0.second).1 (ap (λ (c : Counts). c.registers - 1) (valid-sizes _ _ s.requires.0.first) ∙ sym s.requires.2)
    ∙ ap (flat_map (joints s)) (valid-arcs _ _ s.requires.0.first)

-- the arc of this turn, and what is left to write
here : (c : goal.In-loop-i) → ArcHere c.args.a c.args.first.now c.loop-i.from
here c = walk_here c.args.a c.args.first.now c.args.a.arcs c.loop-i._i c.loop-i.from c.loop-i-test.true c.loop-i.invariant.0

turn : (c : goal.In-loop-i) →
    let joints' : Arc → List Arc = joint_with c.args.b.states c.args.k (by_first c.args.first.now c.args.others.now c.args.second.now).arcs in let g = joints' in let arc = drop c.loop-i.from c.args.first.now in
    Left c.args.at (arcs_bytes (flat_map g (arcs_of c.args.a.arcs (drop (first_arc c.args.a) c.args.first.now)))) c.args.out.now c.loop-i.to
    (arcs_bytes (g (arc_of arc)) ++ arcs_bytes (flat_map g (arcs_of (c.args.a.arcs - (c.loop-i._i + 1)) (drop (c.loop-i.from + arc_size arc) c.args.first.now)))) c.loop-i.out
turn c = let joints' : Arc → List Arc = joint_with c.args.b.states c.args.k (by_first c.args.first.now c.args.others.now c.args.second.now).arcs in
    let g = joints' in
    let arc = drop c.loop-i.from c.args.first.now in
    rw (flat_next g c.args.a c.args.first.now c.args.a.arcs c.loop-i._i c.loop-i.from c.loop-i-test.true, arcs-append (g (arc_of arc)) (flat_map g (arcs_of (c.args.a.arcs - (c.loop-i._i + 1)) (drop (c.loop-i.from + arc_size arc) c.args.first.now)))) at c.loop-i.invariant.1

pub first_arc-from-requires : goal.first_arc-from-requires
first_arc-from-requires c = let r = valid-ranges _ _ c.requires.0.first in
    (r.letters, omega (arith, r.states))

pub loop-i-init : goal.loop-i-init
loop-i-init c = let e : c.args.a.arcs - 0 ≡ c.args.a.arcs = omega arith in
    (rw (e, c.first_arc-from.ensures) (walk_start _ _ c.requires.0.first), rw (e, c.first_arc-from.ensures) (left-all (rw (all (goal.at.loop-i-init c).Start) at c.requires.3)))

pub write_joint_with-to-requires : goal.write_joint_with-to-requires
write_joint_with-to-requires c = let h = here (goal.at.write_joint_with-to-requires c).In-loop-i in
    let x = arc_of (drop c.loop-i.from c.args.first.now) in (
      record { counts = c.args.a; files = c.requires.0; whole = h.whole; lettered = h.fits.lettered; few_ops = h.fits.few_ops },
      row_below x.source c.args.a.states c.args.b.states 256 h.fits.source c.requires.1,
      row_below x.target c.args.a.states c.args.b.states 256 h.fits.target c.requires.1,
      omega (arith, c.requires.2, (valid-ranges _ _ c.requires.0.first).registers),
      left-fits (arcs_bytes (joints (goal.at.write_joint_with-to-requires c).Start x)) _ (turn (goal.at.write_joint_with-to-requires c).In-loop-i),
      h.kinds,
    )

pub arc_size-from-requires : goal.arc_size-from-requires
arc_size-from-requires c = omega (arith, (here (goal.at.arc_size-from-requires c).In-loop-i).whole)

pub overflow_add-from : goal.overflow_add-from
overflow_add-from c = omega (arith, (here (goal.at.overflow_add-from c).In-loop-i).whole, c.arc_size-from.ensures.0)

pub loop-i-preserved : goal.loop-i-preserved
loop-i-preserved c = (
  rw c.arc_size-from.ensures.0 (walk-on c.args.a c.args.first.now c.args.a.arcs c.loop-i._i c.loop-i.from c.loop-i-test.true c.loop-i.invariant.0),
  rw c.arc_size-from.ensures.0 (left_less _ (turn (goal.at.loop-i-preserved c).In-loop-i) c.write_joint_with-to.ensures),
)

pub returns : goal.returns
unfolding arcs_bytes
returns c = rw (all (goal.at.returns c).Start) (left-none (rw (flat_none (joints (goal.at.returns c).Start) c.args.a c.args.first.now c.args.a.arcs c.loop-i._i c.loop-i.from c.loop-i-test.false) at c.loop-i.invariant.1))
