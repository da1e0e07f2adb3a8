-- `join_product_arcs::joint::write_joint_arcs` meets its contract.
use mathlib.Core.List.{flat_map}
use Prim.Native.Nat.{◌-◌}
use lib.ListN.{drop}
use Rattle.file_fields.specs.Parts.{first_arc}
use Rattle.format.specs.Decoding.{arcs_of}
use Rattle.format.specs.Encoding.{arcs_bytes}
use Rattle.file_writing.proofs.Laws.{Left}
use Rattle.join_parts.specs.OwnNumbers.{by_first}
use Rattle.join_parts.proofs.Laws.{Walk}
use Rattle.join_product_count.specs.ProductArcs.{joint_with}
use Rattle.join_product_arcs.proofs.joint.write_joint_arcs.Given as goal

abbrev pub invariant-loop-i : goal.invariant-loop-i
invariant-loop-i l = Walk l.fn.a l.first (l.fn.a.arcs - l._i) l.from × Left l.at (arcs_bytes (flat_map (joint_with l.b.states l.k (by_first l.first l.others l.second).arcs) (arcs_of l.fn.a.arcs (drop (first_arc l.fn.a) l.first)))) l.initial.out l.to (arcs_bytes (flat_map (joint_with l.b.states l.k (by_first l.first l.others l.second).arcs) (arcs_of (l.fn.a.arcs - l._i) (drop l.from l.first)))) l.out
