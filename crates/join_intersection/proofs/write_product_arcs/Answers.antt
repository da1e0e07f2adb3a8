-- `join_intersection::write_product_arcs` meets its contract.
use mathlib.Core.Path.{◌≡◌, ap, refl}
use mathlib.Core.List.{[], ◌++◌}
use Prim.Native.Nat.{◌-◌}
use native.Mathlib.Omega.{arith}
use lib.ListN.{length-append}
use Rattle.automata.specs.Joins.{both_arcs}
use Rattle.file_fields.specs.declared.Counts.{Counts}
use Rattle.format.specs.Decoding.{automaton_of}
use Rattle.format.specs.Encoding.{arcs_bytes}
use Rattle.file_laws.proofs.Laws.{valid-ranges, valid-sizes}
use Rattle.file_writing.proofs.Laws.{Appended-ends, written_then}
use Rattle.join_parts.specs.OwnNumbers.{by_first}
use Rattle.join_parts.proofs.Laws.{valid-lengths}
use Rattle.join_product_count.specs.ProductArcs.{empty_with, numbers_by, product_of}
use Rattle.join_product_arcs.specs.JointArcs.{beside_arc}
use Rattle.join_product_arcs.proofs.Laws.{Pair-below}
use Rattle.join_intersection.proofs.IntersectionBytes.{arc-parts, of_first, of_second}
use Rattle.join_intersection.proofs.write_product_arcs.Goals as goal
use Rattle.join_intersection.proofs.write_product_arcs.Goals.{Start}

-- the parts, and room for them
parts : (s : goal.Start) → let x = automaton_of s.args.first.now in let y = automaton_of s.args.second.now in let k = s.args.a.registers - 1 in
    arcs_bytes (product_of s.args.first.now s.args.others.now s.args.second.now).arcs
    ≡ arcs_bytes (both_arcs x (by_first s.args.first.now s.args.others.now s.args.second.now)) ++ (arcs_bytes (empty_with (beside_arc (of_first s.args.b.states)) s.args.b.states x.arcs) ++ arcs_bytes (empty_with (beside_arc (of_second s.args.a.states s.args.b.states k)) s.args.a.states y.arcs))
parts s = arc-parts (automaton_of s.args.first.now) (automaton_of s.args.second.now) (numbers_by s.args.first.now s.args.others.now) [] (valid-lengths _ _ s.requires.0.first).1 (valid-lengths _ _ s.requires.0.second).1 (ap (λ (c : Counts). c.registers - 1) (valid-sizes _ _ s.requires.0.first))

pub overflow_sub-shift : goal.overflow_sub-shift
overflow_sub-shift c = omega (arith, (valid-ranges _ _ c.requires.0.first).some_register)

pub write_joint_arcs-lefts-requires : goal.write_joint_arcs-lefts-requires
write_joint_arcs-lefts-requires c = (c.requires.0, c.requires.1, refl, omega (arith, simp length-append at (rw (parts (goal.at.write_joint_arcs-lefts-requires c).Start) at c.requires.2)))

pub write_empty_moves-rights-requires : goal.write_empty_moves-rights-requires
write_empty_moves-rights-requires c = (
  c.requires.0.first,
  λ p j h k. omega (arith, Pair-below p c.args.a.states j c.args.b.states h k, c.requires.1),
  omega arith,
  omega (arith, simp length-append at (rw (parts (goal.at.write_empty_moves-rights-requires c).Start) at c.requires.2), Appended-ends c.write_joint_arcs-lefts.ensures),
)

pub write_empty_moves-requires : goal.write_empty_moves-requires
write_empty_moves-requires c = (
  c.requires.0.second,
  λ p i h k. omega (arith, Pair-below i c.args.a.states p c.args.b.states k h, c.requires.1),
  omega (arith, (valid-ranges _ _ c.requires.0.first).registers),
  omega (arith, simp length-append at (rw (parts (goal.at.write_empty_moves-requires c).Start) at c.requires.2), Appended-ends c.write_joint_arcs-lefts.ensures, Appended-ends c.write_empty_moves-rights.ensures),
)

pub returns : goal.returns
returns c = rw (parts (goal.at.returns c).Start) (written_then c.write_joint_arcs-lefts.ensures (written_then c.write_empty_moves-rights.ensures c.write_empty_moves.ensures))
