-- `unfold::arcs::write_arcs` meets its contract. The loop's invariant: the arcs of the configurations from number s on are left.
use mathlib.Core.List.{map}
use Prim.Native.Nat.{◌-◌}
use Rattle.automata.specs.Unfolding.{as_arc}
use Rattle.format.specs.Encoding.{arcs_bytes}
use Rattle.file_writing.proofs.Laws.{Left}
use Rattle.table.specs.Face.{plains_of_many}
use Rattle.unfold.proofs.arcs.write_arcs.Given as goal

abbrev pub invariant-loop-s : goal.invariant-loop-s
invariant-loop-s l = Left l.at (arcs_bytes (map as_arc (plains_of_many l.w l.block 0 l.block.count))) l.initial.out l.next (arcs_bytes (map as_arc (plains_of_many l.w l.block l.s (l.block.count - l.s)))) l.out
