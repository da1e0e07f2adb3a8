-- `join_product_arcs::joint::write_joint_with` meets its contract.
use mathlib.Core.List.{map}
use Prim.Native.Nat.{◌-◌}
use lib.ListN.{drop}
use Rattle.relettering.specs.Relettering.{relettered_arc}
use Rattle.file_fields.specs.Parts.{first_arc}
use Rattle.format.specs.Decoding.{arc_of, arcs_of}
use Rattle.format.specs.Encoding.{arcs_bytes}
use Rattle.file_writing.proofs.Laws.{Left}
use Rattle.join_parts.proofs.Laws.{Walk}
use Rattle.join_product_count.specs.ProductArcs.{joint_with, numbers_by}
use Rattle.join_product_arcs.proofs.joint.write_joint_with.Given as goal

abbrev pub invariant-loop-i : goal.invariant-loop-i
invariant-loop-i l = Walk l.fn.b l.second (l.fn.b.arcs - l._i) l.other × Left l.at (arcs_bytes (joint_with l.fn.b.states l.k (map (relettered_arc (numbers_by l.first l.others)) (arcs_of l.fn.b.arcs (drop (first_arc l.fn.b) l.second))) (arc_of (drop l.from l.first)))) l.initial.out l.to (arcs_bytes (joint_with l.fn.b.states l.k (map (relettered_arc (numbers_by l.first l.others)) (arcs_of (l.fn.b.arcs - l._i) (drop l.other l.second))) (arc_of (drop l.from l.first)))) l.out
