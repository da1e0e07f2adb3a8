-- `join_product_arcs::beside::write_beside_each` meets its contract.
use mathlib.Core.List.{map}
use Prim.Native.Nat.{◌-◌}
use lib.ListN.{drop}
use Rattle.automata.specs.Lists.{count_from}
use Rattle.format.specs.Decoding.{arc_of}
use Rattle.format.specs.Encoding.{arcs_bytes}
use Rattle.file_writing.proofs.Laws.{Left}
use Rattle.join_product_arcs.specs.JointArcs.{beside_arc}
use Rattle.join_product_arcs.proofs.beside.write_beside_each.Given as goal

abbrev pub invariant-loop-i : goal.invariant-loop-i
invariant-loop-i l = Left l.at (arcs_bytes (map (beside_arc l.b (arc_of (drop l.from l.file))) (count_from 0 l.b.states))) l.initial.out l.to (arcs_bytes (map (beside_arc l.b (arc_of (drop l.from l.file))) (count_from l.i (l.b.states - l.i)))) l.out
