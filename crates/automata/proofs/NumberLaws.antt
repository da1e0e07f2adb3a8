-- NumberLaws: the number of an element in a list: what it is of a member, of a new one, and that a number once given stays.
use mathlib.Core.Path.{◌∙◌, ◌≡◌, ap, refl, sym}
use mathlib.Core.Logic.{◌↔◌, ⊎_elim}
use Prim.Native.Nat.{◌+◌, ◌<◌, ◌≤◌, suc, zero, ℕ}
use lib.Dec.{T}
use lib.ListN.{get_elem?, length}
use mathlib.Core.Bool.{Bool, false, true}
use mathlib.Core.List.{List, Memᴰ, [], ◌++◌, ◌∷◌, append_assoc, append-nil}
use mathlib.Core.Option.{some-injective, some}
use native.Mathlib.Nat.{add-suc, add-zero, le_of_suc-le-suc, not-suc-le-zero}
use native.Mathlib.Omega.{arith}
use Rattle.automata.specs.Automaton.{start}
use Rattle.automata.specs.Counting.{Apart}
use Rattle.automata.specs.Exploration.{Distinct, add, add_all, has, known, number, targets, walk}
use Rattle.automata.specs.Lists.{any}
use Rattle.automata.proofs.ExplorationLaws.{add-cases}
use Rattle.automata.proofs.ListLaws.{at_mem, none-some}

-- ---- where `same` is equality
module _ {X : Type 0} (same : X → X → Bool) (eq : (x y : X) → T (same x y) ↔ (x ≡ y)) where
  pub number_at : {x : X} {l : List X} → Memᴰ x l → get_elem? l (number same x l) ≡ some x
  unfolding number
  number_at {x} (Memᴰ.head {x = y} {xs = l} e) = go (same x y) refl
    where
      go : (b : Bool) → same x y ≡ b → get_elem? (y ∷ l) (number same x (y ∷ l)) ≡ some x
      go true q = rw q (rw e)
      go false q = absurd (rw q at ((eq x y).1 e))
  number_at {x} (Memᴰ.tail {x = y} {xs = l} m) = go (number_at m) (same x y) refl
    where
      go : get_elem? l (number same x l) ≡ some x → (b : Bool) → same x y ≡ b → get_elem? (y ∷ l) (number same x (y ∷ l)) ≡ some x
      go ih true q = rw q (ap some (sym ((eq x y).0 (rw q tt))))
      go ih false q = rw q ih

  -- no one has two numbers
  pub one_number : (l : List X) (i j : ℕ) {x : X} → Distinct same l → get_elem? l i ≡ some x → get_elem? l j ≡ some x → i ≡ j
  one_number [] i j d p q = none-some refl p
  one_number (y ∷ l) zero zero d p q = refl
  one_number (y ∷ l) zero (suc j) {x} d p q = absurd (d.0 x (at_mem l j q) ((eq x y).1 (sym (some-injective y x p))))
  one_number (y ∷ l) (suc i) zero {x} d p q = absurd (d.0 x (at_mem l i p) ((eq x y).1 (sym (some-injective y x q))))
  one_number (y ∷ l) (suc i) (suc j) d p q = ap suc (one_number l i j d.1 p q)

  -- a number below the length is that of a member
  pub number-found : (x : X) (l : List X) → number same x l < length l → get_elem? l (number same x l) ≡ some x
  unfolding number
  number-found x [] h = absurd (not-suc-le-zero h)
  number-found x (y ∷ l) h = go (number-found x l) (same x y) refl
    where
      go : (number same x l < length l → get_elem? l (number same x l) ≡ some x) → (b : Bool) → same x y ≡ b → get_elem? (y ∷ l) (number same x (y ∷ l)) ≡ some x
      go ih true q = rw q (ap some (sym ((eq x y).0 (rw q tt))))
      go ih false q = rw q (ih (le_of_suc-le-suc (rw q at h)))

  pub apart_distinct : (l : List X) → Apart l → Distinct same l
  apart_distinct [] d = tt
  apart_distinct (x ∷ l) d = (λ y k t. d.0 (rw ((eq y x).0 t) at k), apart_distinct l d.1)

-- ---- for any test
module _ {X : Type 0} (same : X → X → Bool) where
  -- a number below the length says that it is there, and the length that it is not
  pub has-lt : (x : X) (l : List X) → number same x l < length l → has same x l ≡ true
  unfolding number has any
  has-lt x [] h = absurd (not-suc-le-zero h)
  has-lt x (y ∷ l) h = go (has-lt x l) (same x y) refl
    where
      go : (number same x l < length l → has same x l ≡ true) → (b : Bool) → same x y ≡ b → has same x (y ∷ l) ≡ true
      go ih true e = rw e
      go ih false e = rw e (ih (le_of_suc-le-suc (rw e at h)))

  pub has-none : (x : X) (l : List X) → length l ≤ number same x l → has same x l ≡ false
  unfolding number has any
  has-none x [] h = refl
  has-none x (y ∷ l) h = go (has-none x l) (same x y) refl
    where
      go : (length l ≤ number same x l → has same x l ≡ false) → (b : Bool) → same x y ≡ b → has same x (y ∷ l) ≡ false
      go ih true e = absurd (not-suc-le-zero (rw e at h))
      go ih false e = rw e (ih (le_of_suc-le-suc (rw e at h)))

  pub add-old : (x : X) (l : List X) → number same x l < length l → add same l x ≡ l
  unfolding add
  add-old x l h = rw (has-lt x l h)

  pub add-new : (x : X) (l : List X) → length l ≤ number same x l → add same l x ≡ l ++ x ∷ []
  unfolding add
  add-new x l h = rw (has-none x l h)

  -- a number that is given stays
  pub number_append : (x : X) (l r : List X) → has same x l ≡ true → number same x (l ++ r) ≡ number same x l
  unfolding has any number
  number_append x [] r h = let z : ◌≡◌ {A = ℕ} 0 1 = cc in absurd (omega arith)
  number_append x (y ∷ l) r h = go (same x y) refl (λ k. number_append x l r k)
    where
      go : (t : Bool) → same x y ≡ t → (has same x l ≡ true → number same x (l ++ r) ≡ number same x l) → number same x (y ∷ l ++ r) ≡ number same x (y ∷ l)
      go true e ih = rw e
      go false e ih = rw e (ap suc (ih (rw e at h)))

  module _ (same_refl : (x : X) → same x x ≡ true) where
    number-snoc : (x : X) (l : List X) → has same x l ≡ false → number same x (l ++ x ∷ []) ≡ number same x l
    unfolding has any number
    number-snoc x [] h = rw (same_refl x)
    number-snoc x (y ∷ l) h = go (same x y) refl (λ k. number-snoc x l k)
      where
        go : (t : Bool) → same x y ≡ t → (has same x l ≡ false → number same x (l ++ x ∷ []) ≡ number same x l) → number same x (y ∷ l ++ x ∷ []) ≡ number same x (y ∷ l)
        go true e ih = rw e
        go false e ih = rw e (ap suc (ih (rw e at h)))

    has-snoc : (x : X) (l : List X) → has same x (l ++ x ∷ []) ≡ true
    unfolding has any
    has-snoc x [] = rw (same_refl x)
    has-snoc x (y ∷ l) = go (same x y) refl (has-snoc x l)
      where
        go : (t : Bool) → same x y ≡ t → has same x (l ++ x ∷ []) ≡ true → has same x (y ∷ l ++ x ∷ []) ≡ true
        go true e ih = rw e
        go false e ih = rw e ih

    -- the number that `add` gives, and that it is there then
    pub number-add : (l : List X) (x : X) → (number same x (add same l x) ≡ number same x l) × (has same x (add same l x) ≡ true)
    unfolding add
    number-add l x = go (has same x l) refl
      where
        go : (t : Bool) → has same x l ≡ t → (number same x (add same l x) ≡ number same x l) × (has same x (add same l x) ≡ true)
        go true e = rw e (refl, e)
        go false e = rw e (number-snoc x l e, has-snoc x l)

  -- what is known stands in front of what is known later
  add-prefix : (l : List X) (x : X) → (r : List X) × (add same l x ≡ l ++ r)
  add-prefix l x = ⊎_elim (λ p. ([], p.1 ∙ sym (append-nil l))) (λ p. (x ∷ [], p.1)) (add-cases same l x)

  pub add_all-prefix : (l xs : List X) → (r : List X) × (add_all same l xs ≡ l ++ r)
  unfolding add_all
  add_all-prefix l [] = ([], sym (append-nil l))
  add_all-prefix l (x ∷ xs) =
      let a = add-prefix l x in
      let b = add_all-prefix (add same l x) xs in
      (a.0 ++ b.0, b.1 ∙ ap (λ (t : List X). t ++ b.0) a.1 ∙ append_assoc l a.0 b.0)

  pub known-prefix : (next : X → List X) (start : List X) (c j : ℕ) → (r : List X) × (known same next start (c + j) ≡ known same next start c ++ r)
  unfolding known walk
  known-prefix next start c zero = ([], rw (add-zero c) (sym (append-nil (known same next start c))))
  known-prefix next start c (suc j) =
      let a = known-prefix next start c j in
      let b = add_all-prefix (known same next start (c + j)) (targets next (get_elem? (known same next start (c + j)) (c + j))) in
      (a.0 ++ b.0, rw (add-suc c j) (b.1 ∙ ap (λ (l : List X). l ++ b.0) a.1 ∙ append_assoc (known same next start c) a.0 b.0))
