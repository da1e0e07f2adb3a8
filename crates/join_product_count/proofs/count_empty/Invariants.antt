-- `join_product_count::count_empty` meets its contract.
use mathlib.Core.Path.{◌≡◌}
use mathlib.Core.Bool.{false}
use Prim.Native.Nat.{ℕ, ◌-◌, ◌*◌, ◌≤◌}
use lib.ListN.{length, drop}
use Rattle.automata.specs.Automaton.{Arc}
use Rattle.file_fields.specs.Parts.{first_arc}
use Rattle.format.specs.Decoding.{arcs_of}
use Rattle.join_parts.proofs.Laws.{Walk}
use Rattle.join_product_count.specs.ProductArcs.{empty_with}
use Rattle.join_product_count.proofs.Uncounted.{Uncounted}
use Rattle.join_product_count.proofs.count_empty.Given as goal

abbrev pub invariant-loop-i : goal.invariant-loop-i
invariant-loop-i l = Walk l.fn.c l.file (l.fn.c.arcs - l._i) l.from × (l.arcs ≤ 256 * l._i) × (l.size ≤ 131840 * l._i) × ((f : Arc → ℕ → Arc) → ((x : Arc) (j : ℕ) → length (f x j).ops ≡ length x.ops) → Uncounted (record { arcs = l.arcs; size = l.size; many = false }) (empty_with f l.n (arcs_of (l.fn.c.arcs - l._i) (drop l.from l.file))) (empty_with f l.n (arcs_of l.fn.c.arcs (drop (first_arc l.fn.c) l.file))))
