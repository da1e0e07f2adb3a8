-- IntersectionBytes: the counts of an intersection, and the bytes of its arcs in the parts in which they are written.
use mathlib.Core.Path.{◌≡◌, ◌∙◌, ap, ap₂}
use mathlib.Core.List.{List, ◌++◌}
use Prim.Native.Nat.{ℕ, ◌+◌, ◌-◌, ◌*◌, ◌≤◌, max}
use native.Mathlib.Omega.{arith}
use lib.ListN.{length}
use Rattle.automata.specs.Automaton.{Arc, Automaton, letters, states}
use Rattle.automata.specs.Joins.{arc_left, arc_right, both_arcs, intersection}
use Rattle.relettering.specs.Relettering.{with_letters}
use Rattle.format.specs.Encoding.{arcs_bytes, sizes}
use Rattle.file_arc_writing.proofs.Laws.{ops-unmoved}
use Rattle.file_writing.proofs.Laws.{arcs-append}
use Rattle.join_parts.specs.OwnNumbers.{roomy}
use Rattle.join_parts.proofs.Laws.{roomy-counts}
use Rattle.join_product_count.specs.ProductArcs.{empty_with}
use Rattle.join_product_count.proofs.Laws.{left-group, right-group}
use Rattle.join_product_arcs.specs.declared.beside.Beside.{Beside}
use Rattle.join_product_arcs.specs.JointArcs.{beside_arc}
use Rattle.join_intersection.proofs.BothFlags.{both-length}

-- where empty moves of the first stand, beside n states; and those of the second, which has n states, beside m
abbrev pub of_first : ℕ → Beside
of_first n = record { states = n; scale = n; step = 1; shift = 0 }

abbrev pub of_second : ℕ → ℕ → ℕ → Beside
of_second m n k = record { states = m; scale = 1; step = n; shift = k }

left-beside : (n : ℕ) (x : Arc) (j : ℕ) → arc_left n x j ≡ beside_arc (of_first n) x j
left-beside n x j = let e : j * 1 ≡ j = omega arith in rw (e, ops-unmoved x.ops)

right-beside : (m n k : ℕ) (y : Arc) (i : ℕ) → arc_right n k y i ≡ beside_arc (of_second m n k) y i
right-beside m n k y i =
    let s : y.source * 1 + i * n ≡ i * n + y.source = omega arith in
    let t : y.target * 1 + i * n ≡ i * n + y.target = omega arith in
    rw (s, t)

module _ (a b : Automaton) where
  pub intersection-states : states (intersection a b) ≡ states a * states b
  unfolding intersection
  intersection-states = both-length a.finals b.finals

  -- with room for n letters
  pub intersection-counts : (n : ℕ) → letters a ≤ n → sizes (roomy n (intersection a b))
      ≡ record { letters = n; states = states a * states b; registers = a.registers + b.registers - 1; symbols = max a.symbols b.symbols; arcs = length (intersection a b).arcs }
  unfolding intersection
  intersection-counts n room =
      roomy-counts n (intersection a b) room
      ∙ ap (λ (s : ℕ). record { letters = n; states = s; registers = a.registers + b.registers - 1; symbols = max a.symbols b.symbols; arcs = length (intersection a b).arcs }) intersection-states

-- the arcs, in the parts in which they are written
module _ (x y : Automaton) (new all : List ℕ) {m n k : ℕ} (sx : states x ≡ m) (sy : states y ≡ n) (rx : x.registers - 1 ≡ k) where
  pub arc-parts : arcs_bytes (intersection x (with_letters new all y)).arcs
      ≡ arcs_bytes (both_arcs x (with_letters new all y)) ++ (arcs_bytes (empty_with (beside_arc (of_first n)) n x.arcs) ++ arcs_bytes (empty_with (beside_arc (of_second m n k)) m y.arcs))
  unfolding intersection
  arc-parts =
      let joint = both_arcs x (with_letters new all y) in
      let lefts = empty_with (beside_arc (of_first n)) n x.arcs in
      let rights = empty_with (beside_arc (of_second m n k)) m y.arcs in
      let first : arc_left n ≡ beside_arc (of_first n) = λ i z j. left-beside n z j i in
      let second : arc_right n k ≡ beside_arc (of_second m n k) = λ i z j. right-beside m n k z j i in
      ap₂ (λ (l r : List Arc). arcs_bytes (joint ++ (l ++ r))) (left-group x y new all sy ∙ ap (λ (f : Arc → ℕ → Arc). empty_with f n x.arcs) first) (right-group x y new all sy rx sx ∙ ap (λ (f : Arc → ℕ → Arc). empty_with f m y.arcs) second)
      ∙ arcs-append joint (lefts ++ rights)
      ∙ ap (λ (l : List ℕ). arcs_bytes joint ++ l) (arcs-append lefts rights)
