-- `unfold::arcs::write_some` meets its contract. The loop's invariant: the arcs from number i on are left to be written.
use mathlib.Core.List.{map}
use Rattle.automata.specs.Unfolding.{as_arc}
use Rattle.format.specs.Encoding.{arcs_bytes}
use Rattle.file_writing.proofs.Laws.{Left}
use Rattle.table.specs.Face.{plains_between}
use Rattle.unfold.proofs.arcs.write_some.Given as goal

abbrev pub invariant-loop-i : goal.invariant-loop-i
invariant-loop-i l = Left l.at (arcs_bytes (map as_arc (plains_between l.w l.block l.source l.from l.to))) l.initial.out l.next (arcs_bytes (map as_arc (plains_between l.w l.block l.source l.i l.to))) l.out
