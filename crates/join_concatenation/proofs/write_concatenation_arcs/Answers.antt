-- `join_concatenation::write_concatenation_arcs` meets its contract.
use mathlib.Core.Path.{◌≡◌, ap}
use mathlib.Core.List.{◌++◌, map}
use Prim.Native.Nat.{◌*◌, ◌+◌, ◌-◌, ◌≤◌}
use native.Mathlib.Omega.{arith}
use borrow.Author.Rules.{rules}
use lib.ListN.{length}
use Rattle.automata.specs.Joins.{concatenation, final_states, moved_arc}
use Rattle.file_fields.specs.declared.Counts.{Counts}
use Rattle.format.specs.Decoding.{automaton_of}
use Rattle.format.specs.Encoding.{arcs_bytes}
use Rattle.file_laws.proofs.Laws.{valid-ranges, valid-sizes}
use Rattle.file_writing.proofs.Laws.{Appended-ends, written_then}
use Rattle.join_parts.proofs.Laws.{arcs-moved-length, returning}
use Rattle.join_concatenation.proofs.ConcatenationBytes.{concatenation-arc-parts, concatenation-arcs-length, moves-length}
use Rattle.join_concatenation.proofs.write_concatenation_arcs.Goals as goal
use Rattle.join_concatenation.proofs.write_concatenation_arcs.Goals.{Start}

-- the parts, and that they are written one behind the other
abbrev parts : (s : goal.Start) → let x = automaton_of s.args.first.now in let y = automaton_of s.args.second.now in arcs_bytes (concatenation x y).arcs
    ≡ arcs_bytes (map (moved_arc 0 0) x.arcs) ++ (arcs_bytes (map (returning 0 s.args.a.states 1) (final_states 0 x.finals)) ++ arcs_bytes (map (moved_arc s.args.a.states (s.args.a.registers - 1)) y.arcs))
parts s = let n = valid-sizes _ _ s.requires.0 in
    concatenation-arc-parts (automaton_of s.args.first.now) (automaton_of s.args.second.now) (ap (λ (c : Counts). c.states) n) (ap (λ (c : Counts). c.registers) n)

pub returns : goal.returns
returns c = rw (parts (goal.at.returns c).Start) (written_then c.write_moved_arcs-between.ensures (written_then c.write_final_arcs-right.ensures c.write_moved_arcs.ensures))

-- there is room for them, and each writer has what it asks for
room : (s : goal.Start) → let x = automaton_of s.args.first.now in let y = automaton_of s.args.second.now in
    s.args.at + length (arcs_bytes x.arcs) + 6 * length (final_states 0 x.finals) + length (arcs_bytes y.arcs) ≤ length s.args.out.now
room s = omega (arith, s.requires.3, concatenation-arcs-length (automaton_of s.args.first.now) (automaton_of s.args.second.now))

pub overflow_sub-shift : goal.overflow_sub-shift
overflow_sub-shift c = omega (arith, (valid-ranges _ _ c.requires.0).some_register)

pub write_moved_arcs-between-requires : goal.write_moved_arcs-between-requires
write_moved_arcs-between-requires c = (search rules, omega (arith, c.requires.2), omega (arith, (valid-ranges _ _ c.requires.0).registers), simp arcs-moved-length (omega (arith, room (goal.at.write_moved_arcs-between-requires c).Start)))

pub write_final_arcs-right-requires : goal.write_final_arcs-right-requires
write_final_arcs-right-requires c = (
  search rules,
  omega (arith, c.requires.2),
  omega (arith, c.requires.2, (valid-ranges _ _ c.requires.1).some_state),
  omega arith,
  simp moves-length (omega (arith, room (goal.at.write_final_arcs-right-requires c).Start, simp arcs-moved-length at (Appended-ends c.write_moved_arcs-between.ensures))),
)

pub write_moved_arcs-requires : goal.write_moved_arcs-requires
write_moved_arcs-requires c = (
  search rules,
  omega (arith, c.requires.2),
  omega (arith, (valid-ranges _ _ c.requires.0).registers),
  simp arcs-moved-length
      (omega (arith, room (goal.at.write_moved_arcs-requires c).Start, simp arcs-moved-length at (Appended-ends c.write_moved_arcs-between.ensures), simp moves-length at (Appended-ends c.write_final_arcs-right.ensures))),
)
