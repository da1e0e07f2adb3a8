-- ArcGroups: the arcs of the intersection of an automaton with one over other letters, group by group: joint arcs, empty moves of the first,
-- empty moves of the second. New numbers change no empty move.
use mathlib.Core.Path.{◌≡◌, refl}
use mathlib.Core.List.{List, flat_map, map}
use Prim.Native.Nat.{ℕ, ◌-◌}
use Rattle.automata.specs.Automaton.{Automaton, states}
use Rattle.automata.specs.Joins.{arc_left, arc_right, both_arcs, left_arcs, right_arcs}
use Rattle.relettering.specs.Relettering.{relettered_arc, with_letters}
use Rattle.join_product_count.specs.ProductArcs.{empty_with, joint_with}
use Rattle.join_product_count.proofs.ProductArcLaws.{empty-relettered}

module _ (x y : Automaton) (new all : List ℕ) {n : ℕ} (sy : states y ≡ n) where
  pub left-group : left_arcs x (with_letters new all y) ≡ empty_with (arc_left n) n x.arcs
  unfolding left_arcs with_letters
  left-group = rw sy

  module _ {k : ℕ} (rx : x.registers - 1 ≡ k) where
    pub joint_group : both_arcs x (with_letters new all y) ≡ flat_map (joint_with n k (map (relettered_arc new) y.arcs)) x.arcs
    unfolding both_arcs with_letters
    joint_group = rw (sy, rx)

    pub right-group : {m : ℕ} → states x ≡ m → right_arcs x (with_letters new all y) ≡ empty_with (arc_right n k) m y.arcs
    unfolding right_arcs with_letters
    right-group {m} sx = rw (sx, sy, rx) (empty-relettered (arc_right n k) m new (λ z. refl) y.arcs)
