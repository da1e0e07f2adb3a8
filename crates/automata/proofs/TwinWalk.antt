-- TwinWalk: an automaton beside itself. The walk over the pairs of live sets from a set and itself meets the sets that the walk over the
-- live sets meets, in the same order, each beside itself: one table of pairs serves one automaton too.
use mathlib.Core.Path.{◌∙◌, ◌≡◌, ap, refl, sym}
use mathlib.Core.Bool.{Bool, beq, ◌&&◌, false, true}
use mathlib.Core.List.{List, [], ◌++◌, ◌∷◌, map}
use Prim.Native.Nat.{ℕ}
use Rattle.automata.specs.Lists.{Each, count_from, same_by}
use Rattle.automata.specs.LiveSets.{same_set}
use Rattle.automata.specs.Pairs.{Pair, same_pair}
use Rattle.automata.specs.Search.{Entry, entries, met, next_entries, nexts, origin, same_entry}
use Rattle.automata.proofs.Mapped.{known_map}

-- the set that an entry of two twins has on both sides
abbrev left_set : Entry Pair → List Bool
left_set e = e.state.left

abbrev Twins : Entry Pair → Type 0
Twins e = e.state.right ≡ e.state.left

and-itself : (b : Bool) → (b && b) ≡ b
and-itself true = refl
and-itself false = refl

module _ (δ : List Bool → ℕ → List Bool) (onward : Pair → ℕ → Pair) (left : (p : Pair) (l : ℕ) → (onward p l).left ≡ δ p.left l) (right : (p : Pair) (l : ℕ) → (onward p l).right ≡ δ p.right l) where
  same_left : (e f : Entry Pair) → Twins e → Twins f → same_entry same_pair e f ≡ same_set (left_set e) (left_set f)
  unfolding same_pair same_set
  same_left e f p q = rw (p, q) (and-itself (same_by beq (left_set e) (left_set f)))

  next-left : (a : ℕ) (e : Entry Pair) → Twins e → (map left_set (next_entries onward a e) ≡ nexts δ a (left_set e)) × Each Twins (next_entries onward a e)
  unfolding next_entries nexts
  next-left a e p = (go (count_from 0 a), each (count_from 0 a))
    where
      at : ℕ → Entry Pair
      at l = record { state = onward e.state l; word = e.word ++ l ∷ [] }

      go : (ls : List ℕ) → map left_set (map at ls) ≡ map (δ (left_set e)) ls
      go [] = refl
      go (l ∷ ls) = let s = left e.state l in let t = go ls in λ i. s i ∷ t i

      each : (ls : List ℕ) → Each Twins (map at ls)
      each [] = tt
      each (l ∷ ls) = (right e.state l ∙ ap (λ (S : List Bool). δ S l) p ∙ sym (left e.state l), each ls)

  -- THE LAW. The same sets are met, in the same order, each beside itself
  pub Twins-met : (a : ℕ) (S : List Bool) (n : ℕ)
      → (map left_set (entries same_pair onward a (record { left = S; right = S }) n) ≡ met same_set δ a S n) × Each Twins (entries same_pair onward a (record { left = S; right = S }) n)
  unfolding entries met
  Twins-met a S n =
      known_map left_set (same_entry same_pair) same_set Twins same_left (next_entries onward a) (nexts δ a) (next-left a)
      (origin (record { left = S; right = S }) ∷ []) (refl, tt) n
