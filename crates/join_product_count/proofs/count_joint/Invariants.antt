-- `join_product_count::count_joint` meets its contract.
use mathlib.Core.List.{map}
use Prim.Native.Nat.{ℕ, ◌*◌, ◌-◌, ◌≤◌}
use lib.ListN.{drop}
use Rattle.relettering.specs.Relettering.{relettered_arc}
use Rattle.file_fields.specs.Parts.{first_arc}
use Rattle.format.specs.Decoding.{arc_of, arcs_of}
use Rattle.join_parts.proofs.Laws.{Walk}
use Rattle.join_product_count.specs.ProductArcs.{joint_with, numbers_by}
use Rattle.join_product_count.proofs.Uncounted.{Uncounted, counted}
use Rattle.join_product_count.proofs.count_joint.Given as goal

abbrev pub invariant-loop-i : goal.invariant-loop-i
invariant-loop-i l = Walk l.fn.b l.second (l.fn.b.arcs - l._i) l.at × ((n k : ℕ) → Uncounted (counted l.arcs l.sum l.most) (joint_with n k (map (relettered_arc (numbers_by l.first l.others)) (arcs_of (l.fn.b.arcs - l._i) (drop l.at l.second))) (arc_of (drop l.from l.first))) (joint_with n k (map (relettered_arc (numbers_by l.first l.others)) (arcs_of l.fn.b.arcs (drop (first_arc l.fn.b) l.second))) (arc_of (drop l.from l.first)))) × (l.arcs ≤ l._i) × (l.sum ≤ 510 * l._i)
