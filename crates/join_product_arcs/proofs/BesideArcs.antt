-- BesideArcs: an empty move beside the states of the other automaton that are left.
use mathlib.Core.Path.{◌≡◌}
use mathlib.Core.List.{List, [], ◌++◌, map}
use Prim.Native.Nat.{ℕ, ◌+◌, ◌-◌, ◌<◌, ◌≤◌}
use native.Mathlib.Numerals.{add-one}
use native.Mathlib.Omega.{arith}
use lib.ListN.{length, length-map}
use Rattle.automata.specs.Automaton.{Arc}
use Rattle.automata.specs.Lists.{count_from}
use Rattle.automata.specs.Joins.{moved_op}
use Rattle.file_fields.specs.Parts.{arc_size}
use Rattle.file_fields.proofs.Laws.{down, none_left}
use Rattle.format.specs.Decoding.{arc_of}
use Rattle.format.specs.Encoding.{arc_bytes, arcs_bytes}
use Rattle.file_arc_writing.proofs.Laws.{arc-length}
use Rattle.join_product_count.proofs.Laws.{ops-here}
use Rattle.join_product_arcs.specs.declared.beside.Beside.{Beside}
use Rattle.join_product_arcs.specs.JointArcs.{beside_arc}

module _ (g : ℕ → Arc) (n i : ℕ) where
  pub Beside-next : i < n → arcs_bytes (map g (count_from i (n - i))) ≡ arc_bytes (g i) ++ arcs_bytes (map g (count_from (i + 1) (n - (i + 1))))
  unfolding count_from arcs_bytes
  Beside-next h = rw (down n i h, add-one i)

  pub beside_none : n ≤ i → arcs_bytes (map g (count_from i (n - i))) ≡ []
  unfolding count_from arcs_bytes
  beside_none h = rw (none_left n i h)

pub Beside-length : (b : Beside) (l : List ℕ) (i : ℕ) → length (arc_bytes (beside_arc b (arc_of l) i)) ≡ arc_size l
Beside-length b l i = omega (arith, arc-length (beside_arc b (arc_of l) i), length-map (arc_of l).ops (moved_op b.shift), ops-here l)
