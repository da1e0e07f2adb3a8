-- PlaceTurns: the states behind a place, met turn by turn: those that the first states lead to, then those of one more. What is met only grows,
-- so a table that is too long after some turns is too long at the end.
use mathlib.Core.Path.{◌∙◌, ◌≡◌, ap, refl, sym}
use mathlib.Core.Bool.{Bool}
use mathlib.Core.List.{List, [], ◌++◌, ◌∷◌, append_assoc, append-nil, flat_map, map}
use mathlib.Core.Option.{some-injective, some}
use Prim.Native.Nat.{◌≤◌, suc, zero, ℕ}
use native.Mathlib.Omega.{arith}
use lib.ListN.{drop, get_elem?, length, take, take-append-drop}
use Rattle.automata.specs.Exploration.{add, add_all}
use Rattle.automata.proofs.Laws.{add_all-length, none-some}
use Rattle.fillings.specs.Fillings.{Range, behind_place, letters_in}

flat_map-append : {A B : Type 0} (f : A → List B) (l r : List A) → flat_map f (l ++ r) ≡ flat_map f l ++ flat_map f r
unfolding flat_map
flat_map-append f [] r = refl
flat_map-append {B = B} f (x ∷ l) r = ap (λ (t : List B). f x ++ t) (flat_map-append f l r) ∙ sym (append_assoc (f x) (flat_map f l) (flat_map f r))

flat_map-at : {A B : Type 0} (f : A → List B) (l : List A) (i : ℕ) {x : A} → get_elem? l i ≡ some x → flat_map f (take (suc i) l) ≡ flat_map f (take i l) ++ f x
unfolding flat_map
flat_map-at f [] i e = none-some refl e
flat_map-at {A} {B} f (y ∷ l) zero {x} e = append-nil (f y) ∙ ap f (some-injective y x e)
flat_map-at {A} {B} f (y ∷ l) (suc i) {x} e = ap (λ (t : List B). f y ++ t) (flat_map-at f l i e) ∙ sym (append_assoc (f y) (flat_map f (take i l)) (f x))

module _ {Q : Type 0} (same : Q → Q → Bool) where
  -- adding two lists is adding one, then the other
  add_all-append : (l xs ys : List Q) → add_all same l (xs ++ ys) ≡ add_all same (add_all same l xs) ys
  unfolding add_all
  add_all-append l [] ys = refl
  add_all-append l (x ∷ xs) ys = add_all-append (add same l x) xs ys

  module _ {A : Type 0} (f : A → List Q) (states : List A) where
    -- a turn: what state number i leads to is added to what those before it lead to
    pub flat_at : (i : ℕ) {q : A} → get_elem? states i ≡ some q → add_all same (add_all same [] (flat_map f (take i states))) (f q) ≡ add_all same [] (flat_map f (take (suc i) states))
    flat_at i {q} e = sym (ap (add_all same []) (flat_map-at f states i e) ∙ add_all-append [] (flat_map f (take i states)) (f q))

    -- after some turns there are at most as many as at the end
    pub flat_length : (i : ℕ) → length (add_all same [] (flat_map f (take i states))) ≤ length (add_all same [] (flat_map f states))
    flat_length i =
        let whole = ap (flat_map f) (sym (take-append-drop i states)) ∙ flat_map-append f (take i states) (drop i states) in
        let both = ap (add_all same []) whole ∙ add_all-append [] (flat_map f (take i states)) (flat_map f (drop i states)) in
        omega (arith, ap length both, add_all-length same (add_all same [] (flat_map f (take i states))) (flat_map f (drop i states)))

  -- what is met by all states is what stands behind the place
  pub place-start : (δ : Q → ℕ → Q) (states : List Q) (r : Range) → behind_place same δ states r ≡ add_all same [] (flat_map (λ q. map (δ q) (letters_in r)) states)
  unfolding behind_place
  place-start δ states r = refl
