-- Mapped: exploring is the same on images, where f tells apart what the tests tell apart, on elements that have a property P.
use mathlib.Core.Path.{◌∙◌, ◌≡◌, ap, refl, sym}
use Prim.Native.Nat.{suc, zero, ℕ}
use lib.ListN.{get_elem?}
use mathlib.Core.Bool.{Bool, false, true}
use mathlib.Core.List.{List, [], ◌∷◌, map}
use mathlib.Core.Option.{Option, none, some}
use Rattle.automata.specs.Automaton.{start}
use Rattle.automata.specs.Exploration.{add, add_all, has, known, number, walk}
use Rattle.automata.specs.Lists.{Each, any}
use Rattle.automata.specs.Pairs.{onward}
use Rattle.automata.proofs.ListLaws.{at_map, each_at, each_snoc, map-append}

module _ {X Y : Type 0} (f : X → Y) (same : X → X → Bool) (same' : Y → Y → Bool) (P : X → Type 0)
    (agree : (x y : X) → P x → P y → same x y ≡ same' (f x) (f y)) where
  pub has-map : (x : X) (l : List X) → P x → Each P l → has same x l ≡ has same' (f x) (map f l)
  unfolding has any
  has-map x [] p q = refl
  has-map x (y ∷ l) p q = rw (agree x y p q.0, has-map x l p q.1)

  pub number-map : (x : X) (l : List X) → P x → Each P l → number same x l ≡ number same' (f x) (map f l)
  unfolding number
  number-map x [] p q = refl
  number-map x (y ∷ l) p q = go (same x y) refl (number-map x l p q.1)
    where
      go : (b : Bool) → same x y ≡ b → number same x l ≡ number same' (f x) (map f l) → number same x (y ∷ l) ≡ number same' (f x) (map f (y ∷ l))
      go true e ih = rw (e, sym (agree x y p q.0) ∙ e)
      go false e ih = rw (e, sym (agree x y p q.0) ∙ e) (ap suc ih)

  pub add-map : (l : List X) (x : X) → P x → Each P l → (map f (add same l x) ≡ add same' (map f l) (f x)) × Each P (add same l x)
  unfolding add
  add-map l x p q = go (has same x l) refl
    where
      go : (b : Bool) → has same x l ≡ b → (map f (add same l x) ≡ add same' (map f l) (f x)) × Each P (add same l x)
      go true e = rw (e, sym (has-map x l p q) ∙ e) (refl, q)
      go false e = rw (e, sym (has-map x l p q) ∙ e) (map-append f l (x ∷ []), each_snoc P l x q p)

  pub add_all-map : (l xs : List X) → Each P l → Each P xs → (map f (add_all same l xs) ≡ add_all same' (map f l) (map f xs)) × Each P (add_all same l xs)
  unfolding add_all
  add_all-map l [] q r = (refl, q)
  add_all-map l (x ∷ xs) q r =
      let a = add-map l x r.0 q in
      let i = add_all-map (add same l x) xs a.1 r.1 in
      (i.0 ∙ rw a.0, i.1)

  module _ (next : X → List X) (next' : Y → List Y) (onward : (x : X) → P x → (map f (next x) ≡ next' (f x)) × Each P (next x)) (start : List X) (first : Each P start) where
    pub known_map : (n : ℕ) → (map f (known same next start n) ≡ known same' next' (map f start) n) × Each P (known same next start n)
    unfolding known walk
    known_map zero = (refl, first)
    known_map (suc n) = go (known_map n) (get_elem? (known same next start n) n) refl
      where
        go : (map f (known same next start n) ≡ known same' next' (map f start) n) × Each P (known same next start n)
            → (o : Option X) → get_elem? (known same next start n) n ≡ o
            → (map f (known same next start (suc n)) ≡ known same' next' (map f start) (suc n)) × Each P (known same next start (suc n))
        go ih none e = rw (e, ← ih.0, at_map f (known same next start n) n, e) (add_all-map (known same next start n) [] ih.1 tt)
        go ih (some x) e =
            let o = onward x (each_at P (known same next start n) n e ih.1) in
            rw (e, ← ih.0, at_map f (known same next start n) n, e, ← o.0) (add_all-map (known same next start n) (next x) ih.1 o.1)
