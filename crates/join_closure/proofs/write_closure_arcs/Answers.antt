-- `join_closure::write_closure_arcs` meets its contract.
use mathlib.Core.Path.{◌≡◌, ap}
use mathlib.Core.List.{◌++◌, map}
use native.Mathlib.Omega.{arith}
use lib.ListN.{length-append}
use Rattle.automata.specs.Joins.{closure, empty_move, final_states, moved_arc}
use Rattle.file_fields.specs.declared.Counts.{Counts}
use Rattle.format.specs.Encoding.{arc_bytes, arcs_bytes}
use Rattle.format.specs.Decoding.{automaton_of}
use Rattle.file_laws.proofs.Laws.{valid-ranges, valid-sizes}
use Rattle.file_writing.proofs.Laws.{Appended-ends, written_then}
use Rattle.join_closure.proofs.ClosureBytes.{closure-arc-parts}
use Rattle.join_parts.proofs.Laws.{entry_length, returning}
use Rattle.join_closure.proofs.write_closure_arcs.Goals as goal
use Rattle.join_closure.proofs.write_closure_arcs.Goals.{Start}

-- the parts
abbrev parts : (s : goal.Start) → let x = automaton_of s.args.file.now in
    arcs_bytes (closure x).arcs ≡ arc_bytes (empty_move 0 1) ++ (arcs_bytes (map (moved_arc 1 0) x.arcs) ++ arcs_bytes (map (returning 1 1 s.args.a.registers) (final_states 0 x.finals)))
parts s = closure-arc-parts (automaton_of s.args.file.now) (ap (λ (d : Counts). d.registers) (valid-sizes _ _ s.requires.0))

pub write_entry-arcs-requires : goal.write_entry-arcs-requires
write_entry-arcs-requires c = (omega arith, omega (arith, simp length-append at (rw (parts (goal.at.write_entry-arcs-requires c).Start) at c.requires.2), entry_length 1))

pub write_moved_arcs-returns-requires : goal.write_moved_arcs-returns-requires
write_moved_arcs-returns-requires c = (c.requires.0, c.requires.1, omega arith, omega (arith, simp length-append at (rw (parts (goal.at.write_moved_arcs-returns-requires c).Start) at c.requires.2), Appended-ends c.write_entry-arcs.ensures))

pub write_final_arcs-requires : goal.write_final_arcs-requires
write_final_arcs-requires c = let r = valid-ranges _ _ c.requires.0 in (
  c.requires.0,
  c.requires.1,
  omega arith,
  omega (arith, r.registers),
  omega (arith, simp length-append at (rw (parts (goal.at.write_final_arcs-requires c).Start) at c.requires.2), Appended-ends c.write_entry-arcs.ensures, Appended-ends c.write_moved_arcs-returns.ensures),
)

pub returns : goal.returns
returns c = rw (parts (goal.at.returns c).Start) (written_then c.write_entry-arcs.ensures (written_then c.write_moved_arcs-returns.ensures c.write_final_arcs.ensures))
