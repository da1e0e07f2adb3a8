-- WordOfRow: up the parents, letter by letter; the word so spelled is that of the definition.
use mathlib.Core.Path.{◌≡◌, refl, sym, ap, ◌∙◌}
use mathlib.Core.Logic.{⊎_elim}
use mathlib.Core.Bool.{Bool, cond}
use mathlib.Core.Option.{some}
use mathlib.Core.List.{List, [], ◌∷◌, ◌++◌}
use Prim.Native.Nat.{ℕ, zero, suc, ◌+◌, ◌≤◌, ◌<◌}
use native.Mathlib.Decide.{ℕ_discrete}
use native.Mathlib.Omega.{arith}
use borrow.Author.Tests.{ne_eqb}
use lib.ListN.{get_elem?, length, length-append}
use Rattle.automata.specs.Pairs.{Pair}
use Rattle.automata.specs.Search.{Entry}
use Rattle.word_layout.specs.declared.SetTable.{SetTable}
use Rattle.live_table.specs.Entries.{Holds, Side, Tree, letter_of, parent_of}
use Rattle.compare_witness.specs.Spelled.{spelled}

pub spelled-zero : (tab : SetTable) (w : List ℕ) (f : ℕ) → spelled tab w f 0 ≡ []
unfolding spelled
spelled-zero tab w zero = refl
spelled-zero tab w (suc f) = refl

module _ (tab : SetTable) (w : List ℕ) (a n : ℕ) (tree : Tree a tab w n) where
  unrolled : (f k : ℕ) → 0 < k → spelled tab w (suc f) k ≡ spelled tab w f (parent_of tab w k) ++ letter_of tab w k ∷ []
  unfolding spelled
  unrolled f k h = ap (λ (b : Bool). cond b [] (spelled tab w f (parent_of tab w k) ++ letter_of tab w k ∷ [])) (ne_eqb k 0 (λ e. omega arith))

  -- as many steps as k are enough
  enough : (f g k : ℕ) → k < n → k ≤ f → k ≤ g → spelled tab w f k ≡ spelled tab w g k
  enough zero g k l p q = let z : k ≡ 0 = omega arith in ap (spelled tab w zero) z ∙ spelled-zero tab w zero ∙ sym (ap (spelled tab w g) z ∙ spelled-zero tab w g)
  enough (suc f) zero k l p q = let z : k ≡ 0 = omega arith in ap (spelled tab w (suc f)) z ∙ spelled-zero tab w (suc f) ∙ sym (ap (spelled tab w zero) z ∙ spelled-zero tab w zero)
  enough (suc f) (suc g) k l p q = go (ℕ_discrete k 0) (λ j x y z. enough f g j x y z)
    where
      go : Dec (k ≡ 0) → ((j : ℕ) → j < n → j ≤ f → j ≤ g → spelled tab w f j ≡ spelled tab w g j) → spelled tab w (suc f) k ≡ spelled tab w (suc g) k
      go (yes z) ih = ap (spelled tab w (suc f)) z ∙ spelled-zero tab w (suc f) ∙ sym (ap (spelled tab w (suc g)) z ∙ spelled-zero tab w (suc g))
      go (no z) ih =
          let d = (tree k (omega arith) l).0 in
          unrolled f k (omega arith) ∙ ap (λ (v : List ℕ). v ++ letter_of tab w k ∷ []) (ih (parent_of tab w k) (omega arith) (omega arith) (omega arith)) ∙ sym (unrolled g k (omega arith))

  pub spelled_step : (f k : ℕ) → 0 < k → k < n → k ≤ f → spelled tab w f k ≡ spelled tab w f (parent_of tab w k) ++ letter_of tab w k ∷ []
  spelled_step zero k h l p = absurd (omega arith)
  spelled_step (suc f) k h l p =
      let d = (tree k h l).0 in
      unrolled f k h ∙ ap (λ (v : List ℕ). v ++ letter_of tab w k ∷ []) (enough f (suc f) (parent_of tab w k) (omega arith) (omega arith) (omega arith))

  pub spelled-length : (f k : ℕ) → 0 < k → k < n → k ≤ f → length (spelled tab w f k) ≡ length (spelled tab w f (parent_of tab w k)) + 1
  spelled-length f k h l p = ap (λ (v : List ℕ). length v) (spelled_step f k h l p) ∙ length-append (spelled tab w f (parent_of tab w k)) (letter_of tab w k ∷ [])

  -- the word of an entry
  pub spelled-word : (s t : Side) (es : List (Entry Pair)) → Holds tab s t w n es → (f k : ℕ) (e : Entry Pair) → k < n → k ≤ f → get_elem? es k ≡ some e → spelled tab w f k ≡ e.word
  unfolding spelled
  spelled-word s t es h zero k e l p q = ⊎_elim (λ c. sym c.1) (λ c. absurd (omega (arith, c.later))) (h.each k e q).spelled
  spelled-word s t es h (suc f) k e l p q = ⊎_elim
      (λ c. ap (spelled tab w (suc f)) c.0 ∙ spelled-zero tab w (suc f) ∙ sym c.1)
      (λ c. let d = (tree k c.later l).0 in
      unrolled f k c.later
      ∙ ap (λ (v : List ℕ). v ++ letter_of tab w k ∷ []) (spelled-word s t es h f (parent_of tab w k) c.parent (omega arith) (omega arith) c.stands)
      ∙ sym c.spells)
      (h.each k e q).spelled
