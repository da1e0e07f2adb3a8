-- `join_parts::groups::write_moved_arcs` meets its contract.
use mathlib.Core.List.{map}
use Prim.Native.Nat.{◌-◌}
use lib.ListN.{drop}
use Rattle.automata.specs.Joins.{moved_arc}
use Rattle.format.specs.Encoding.{arcs_bytes}
use Rattle.format.specs.Decoding.{arcs_of}
use Rattle.file_fields.specs.Parts.{first_arc}
use Rattle.file_writing.proofs.Laws.{Left}
use Rattle.join_parts.proofs.ArcWalk.{Walk}
use Rattle.join_parts.proofs.groups.write_moved_arcs.Given as goal

abbrev pub invariant-loop-i : goal.invariant-loop-i
invariant-loop-i l = Walk l.fn.c l.file (l.fn.c.arcs - l._i) l.from × Left l.at (arcs_bytes (map (moved_arc l.s l.k) (arcs_of l.fn.c.arcs (drop (first_arc l.fn.c) l.file)))) l.initial.out l.to (arcs_bytes (map (moved_arc l.s l.k) (arcs_of (l.fn.c.arcs - l._i) (drop l.from l.file)))) l.out
