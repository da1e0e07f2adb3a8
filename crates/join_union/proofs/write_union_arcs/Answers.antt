-- `join_union::write_union_arcs` meets its contract.
use mathlib.Core.Path.{◌≡◌, ap}
use mathlib.Core.List.{◌++◌, map}
use Prim.Native.Nat.{◌+◌}
use native.Mathlib.Omega.{arith}
use lib.ListN.{length-append}
use Rattle.automata.specs.Joins.{union, empty_move, moved_arc}
use Rattle.file_fields.specs.declared.Counts.{Counts}
use Rattle.format.specs.Decoding.{automaton_of}
use Rattle.format.specs.Encoding.{arcs_bytes, arc_bytes}
use Rattle.file_laws.proofs.Laws.{valid-ranges, valid-sizes}
use Rattle.file_writing.proofs.Laws.{Appended-ends, written_then}
use Rattle.join_parts.proofs.Laws.{entry_length}
use Rattle.join_union.proofs.UnionBytes.{union-arc-parts}
use Rattle.join_union.proofs.write_union_arcs.Goals as goal
use Rattle.join_union.proofs.write_union_arcs.Goals.{Start}

-- the parts, and room for them
abbrev parts : (s : goal.Start) → let x = automaton_of s.args.first.now in let y = automaton_of s.args.second.now in arcs_bytes (union x y).arcs ≡ arc_bytes (empty_move 0 1) ++ (arc_bytes (empty_move 0 (1 + s.args.a.states)) ++ (arcs_bytes (map (moved_arc 1 0) x.arcs) ++ arcs_bytes (map (moved_arc (1 + s.args.a.states) 0) y.arcs)))
parts s = union-arc-parts (automaton_of s.args.first.now) (automaton_of s.args.second.now) (ap (λ (c : Counts). c.states) (valid-sizes _ _ s.requires.0))

pub write_entry-next-requires : goal.write_entry-next-requires
write_entry-next-requires c = (omega arith, omega (arith, simp length-append at (rw (parts (goal.at.write_entry-next-requires c).Start) at c.requires.3), entry_length 1))

pub write_entry-left-requires : goal.write_entry-left-requires
write_entry-left-requires c = (
  omega (arith, c.requires.2, (valid-ranges _ _ c.requires.1).some_state),
  omega (arith, simp length-append at (rw (parts (goal.at.write_entry-left-requires c).Start) at c.requires.3), entry_length (1 + c.args.a.states), Appended-ends c.write_entry-next.ensures),
)

pub write_moved_arcs-right-requires : goal.write_moved_arcs-right-requires
write_moved_arcs-right-requires c = (
  c.requires.0,
  omega (arith, c.requires.2),
  omega arith,
  omega (arith, simp length-append at (rw (parts (goal.at.write_moved_arcs-right-requires c).Start) at c.requires.3), Appended-ends c.write_entry-next.ensures, Appended-ends c.write_entry-left.ensures),
)

pub write_moved_arcs-requires : goal.write_moved_arcs-requires
write_moved_arcs-requires c = (
  c.requires.1,
  c.requires.2,
  omega arith,
  omega (arith, simp length-append at (rw (parts (goal.at.write_moved_arcs-requires c).Start) at c.requires.3), Appended-ends c.write_entry-next.ensures, Appended-ends c.write_entry-left.ensures, Appended-ends c.write_moved_arcs-right.ensures),
)

pub returns : goal.returns
returns c = rw (parts (goal.at.returns c).Start) (written_then c.write_entry-next.ensures (written_then c.write_entry-left.ensures (written_then c.write_moved_arcs-right.ensures c.write_moved_arcs.ensures)))
