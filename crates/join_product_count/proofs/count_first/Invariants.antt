-- `join_product_count::count_first` meets its contract.
use mathlib.Core.List.{flat_map}
use Prim.Native.Nat.{ℕ, ◌-◌, ◌*◌, ◌≤◌}
use lib.ListN.{drop}
use Rattle.file_fields.specs.Parts.{first_arc}
use Rattle.format.specs.Decoding.{arcs_of}
use Rattle.join_parts.specs.OwnNumbers.{by_first}
use Rattle.join_parts.proofs.Laws.{Walk}
use Rattle.join_product_count.specs.ProductArcs.{first_with}
use Rattle.join_product_count.proofs.Uncounted.{Uncounted}
use Rattle.join_product_count.proofs.count_first.Given as goal

abbrev pub invariant-loop-i : goal.invariant-loop-i
invariant-loop-i l = Walk l.fn.a l.first (l.fn.a.arcs - l._i) l.from × (l.arcs ≤ 2048 * l._i) × (l.size ≤ 2097152 * l._i) × ((k : ℕ) → Uncounted (record { arcs = l.arcs; size = l.size; many = l.many }) (flat_map (first_with l.b.states k (by_first l.first l.others l.second).arcs) (arcs_of (l.fn.a.arcs - l._i) (drop l.from l.first))) (flat_map (first_with l.b.states k (by_first l.first l.others l.second).arcs) (arcs_of l.fn.a.arcs (drop (first_arc l.fn.a) l.first))))
