-- OrderedExploration: where targets come in an order, and after what they are the targets of, the walk numbers all in that order; what is
-- reached is numbered, or the same is that does not come after it.
use mathlib.Core.Path.{◌∙◌, ◌≡◌, refl, sym}
use mathlib.Core.Logic.{◌⊎◌, inl, inr, ⊎_elim}
use Prim.Native.Nat.{◌<◌, ◌≤◌, suc, zero, ℕ}
use lib.Dec.{T}
use lib.ListN.{get_elem?, length}
use mathlib.Core.Bool.{Bool}
use mathlib.Core.List.Memᴰ
use mathlib.Core.List.{List, Memᴰ, [], ◌++◌, ◌∷◌}
use mathlib.Core.Option.{some-injective, some}
use native.Mathlib.Decide.{dec_lt}
use native.Mathlib.Nat.{le_of_suc-le-suc, not-suc-le-zero}
use native.Mathlib.Omega.{arith}
use Rattle.automata.specs.Exploration.{Reach, add, add_all, first, has, known, later}
use Rattle.automata.proofs.ExplorationLaws.{Step, add-cases, add_all-at-cases, add_all-cases, add_all-mem, ended, has-iff, known-before, known-first, known-keeps, step, walks}
use Rattle.automata.proofs.ListLaws.{at_mem, get_elem?-lt, mem_at, none-some}

-- each comes before those that stand behind it
abbrev pub Sorted : {X : Type 0} → (X → X → Type 0) → List X → Type 0
Sorted Sooner [] = Unit {0}
Sorted {X} Sooner (x ∷ l) = ((y : X) → Memᴰ y l → Sooner x y) × Sorted Sooner l

pub sorted-at : {X : Type 0} (Sooner : X → X → Type 0) (l : List X) (i j : ℕ) {x y : X} → Sorted Sooner l → i < j → get_elem? l i ≡ some x → get_elem? l j ≡ some y → Sooner x y
sorted-at Sooner [] i j s h p q = none-some refl p
sorted-at Sooner (z ∷ l) i zero s h p q = absurd (not-suc-le-zero h)
sorted-at Sooner (z ∷ l) zero (suc j) {x} {y} s h p q = rw (some-injective z x p) at (s.0 y (at_mem l j q))
sorted-at Sooner (z ∷ l) (suc i) (suc j) s h p q = sorted-at Sooner l i j s.1 (le_of_suc-le-suc h) p q

module _ {X : Type 0} (same : X → X → Bool) (Sooner : X → X → Type 0) where
  snoc_sorted : (l : List X) (x : X) → Sorted Sooner l → ((y : X) → Memᴰ y l → Sooner y x) → Sorted Sooner (l ++ x ∷ [])
  snoc_sorted [] x s h = (λ y m. absurd (Memᴰ.not-nil m), tt)
  snoc_sorted (z ∷ l) x s h = (
    λ y m. ⊎_elim (s.0 y) (λ (k : Memᴰ y (x ∷ [])). rw (Memᴰ.eq_of_singleton k) (h z (Memᴰ.head refl))) (Memᴰ.append_cases l m),
    snoc_sorted l x s.1 (λ y m. h y (Memᴰ.tail m)),
  )

  -- all of l before all of xs
  abbrev Ahead : List X → List X → Type 0
  Ahead l xs = (y z : X) → Memᴰ y l → Memᴰ z xs → Sooner y z

  add-ahead : (l : List X) (x : X) (xs : List X) → Sorted Sooner (x ∷ xs) → Ahead l (x ∷ xs) → Ahead (add same l x) xs
  add-ahead l x xs s h y z m k = ⊎_elim
      (λ p. h y z (rw p.1 at m) (Memᴰ.tail k))
      (λ p. ⊎_elim (λ (o : Memᴰ y l). h y z o (Memᴰ.tail k)) (λ (o : Memᴰ y (x ∷ [])). rw (Memᴰ.eq_of_singleton o) (s.0 z k)) (Memᴰ.append_cases l (rw p.1 at m)))
      (add-cases same l x)

  add_all-sorted : (l xs : List X) → Sorted Sooner l → Sorted Sooner xs → Ahead l xs → Sorted Sooner (add_all same l xs)
  unfolding add_all
  add_all-sorted l [] s t h = s
  add_all-sorted l (x ∷ xs) s t h =
      add_all-sorted (add same l x) xs
      (⊎_elim (λ p. rw p.1 s) (λ p. rw p.1 (snoc_sorted l x s (λ y m. h y x m (Memᴰ.head refl)))) (add-cases same l x))
      t.1 (add-ahead l x xs t h)

  -- what is the same as y stands in the list, and does not come after y
  pub record Stands (y : X) (l : List X) : Type 0 where
    pub it : X
    pub among : Memᴰ it l
    pub alike : T (same y it)
    pub order : (it ≡ y) ⊎ Sooner it y

  add_all-stands : (same_refl : (x : X) → T (same x x)) (l xs : List X) → Sorted Sooner xs → Ahead l xs → (y : X) → Memᴰ y xs → Stands y (add_all same l xs)
  unfolding add_all
  add_all-stands same_refl l [] s h y m = absurd (Memᴰ.not-nil m)
  add_all-stands same_refl l (x ∷ xs) s h y m = ⊎_elim
      (λ (e : y ≡ x). rw e (here (add-cases same l x)))
      (λ (k : Memᴰ y xs). add_all-stands same_refl (add same l x) xs s.1 (add-ahead l x xs s h) y k)
      (Memᴰ.cases_cons m)
    where
      here : (T (has same x l) × (add same l x ≡ l)) ⊎ ((¬ T (has same x l)) × (add same l x ≡ l ++ x ∷ [])) → Stands x (add_all same (add same l x) xs)
      here (inl p) =
          let q = (has-iff same x l).0 p.0 in
          record { it = q.0; among = add_all-mem same (add same l x) xs (rw p.1 q.1); alike = q.2; order = inr (h q.0 x q.1 (Memᴰ.head refl)) }
      here (inr p) = record { it = x; among = add_all-mem same (add same l x) xs (rw p.1 (Memᴰ.append_right l (Memᴰ.head refl))); alike = same_refl x; order = inl refl }

module _ {X : Type 0} (same : X → X → Bool) (next : X → List X) (s₀ : X) (Sooner : X → X → Type 0)
    (trans : (x y z : X) → Sooner x y → Sooner y z → Sooner x z)
    (next-sorted : (x : X) → Sorted Sooner (next x))
    (next-later : (x y : X) → Memᴰ y (next x) → Sooner x y)
    (next-before : (x z u v : X) → Sooner x z → Memᴰ u (next x) → Memᴰ v (next z) → Sooner u v) where
  abbrev upto : ℕ → List X
  upto n = known same next (s₀ ∷ []) n

  -- what is numbered is in order, and comes before the targets of what is still to be walked
  pub record Ordered (n : ℕ) : Type 0 where
    pub sorted : Sorted Sooner (upto n)
    pub ahead : (i : ℕ) (x y z : X) → n ≤ i → get_elem? (upto n) i ≡ some x → Memᴰ y (upto n) → Memᴰ z (next x) → Sooner y z

  pub ordered : (n : ℕ) → Ordered n
  unfolding known
  ordered zero = record {
    sorted = (λ y m. absurd (Memᴰ.not-nil m), tt);
    ahead = λ i x y z h p m k. rw (Memᴰ.eq_of_singleton m) (next-later s₀ z (rw (Memᴰ.eq_of_singleton (at_mem (s₀ ∷ []) i p)) at k));
  }
  ordered (suc n) = go (ordered n) (step same next (s₀ ∷ []) n)
    where
      go : Ordered n → Step same next (upto n) n (upto (suc n)) → Ordered (suc n)
      go ih (ended h e) = record {
        sorted = rw e ih.sorted;
        ahead = λ i x y z h p m k. ih.ahead i x y z (omega arith) (rw e at p) (rw e at m) k;
      }
      go ih (walks v o e) = record { sorted = rw e rows; ahead = next-ahead }
        where
          front : (y z : X) → Memᴰ y (upto n) → Memᴰ z (next v) → Sooner y z
          front y z m k = ih.ahead n v y z (omega arith) o m k

          rows : Sorted Sooner (add_all same (upto n) (next v))
          rows = add_all-sorted same Sooner (upto n) (next v) ih.sorted (next-sorted v) front

          next-ahead : (i : ℕ) (x y z : X) → suc n ≤ i → get_elem? (upto (suc n)) i ≡ some x → Memᴰ y (upto (suc n)) → Memᴰ z (next x) → Sooner y z
          next-ahead i x y z h p m k = ⊎_elim
              (λ (old : Memᴰ y (upto n)). ⊎_elim
              (λ q. ih.ahead i x y z (omega arith) q old k)
              (λ q. trans y x z (front y x old q.1) (next-later x z k))
              (add_all-at-cases same (upto n) (next v) i (rw e at p)))
              (λ (new : Memᴰ y (next v)). next-before v x y z (sorted-at Sooner (upto (suc n)) n i (rw e rows) h (known-keeps same next (s₀ ∷ []) n n o) p) new k)
              (add_all-cases same (upto n) (next v) (rw e at m))

  module _ (same_refl : (x : X) → T (same x x)) where
    -- a target of one that was walked stands there, or what is the same and comes before it
    Walked-stands : (n i : ℕ) (x y : X) → i < n → get_elem? (upto n) i ≡ some x → Memᴰ y (next x) → Stands same Sooner y (upto n)
    Walked-stands zero i x y h p m = absurd (not-suc-le-zero h)
    Walked-stands (suc n) i x y h p m = go (λ l. Walked-stands n i x y l b m) (dec_lt i n) (step same next (s₀ ∷ []) n)
      where
        b : get_elem? (upto n) i ≡ some x
        b = known-before same next (s₀ ∷ []) n i (le_of_suc-le-suc h) p

        go : (i < n → Stands same Sooner y (upto n)) → Dec (i < n) → Step same next (upto n) n (upto (suc n)) → Stands same Sooner y (upto (suc n))
        go ih (yes l) s =
            let r = ih l in
            let a = mem_at r.among in
            record { it = r.it; among = at_mem (upto (suc n)) a.0 (known-keeps same next (s₀ ∷ []) n a.0 a.1); alike = r.alike; order = r.order }
        go ih (no l) (ended k e) = absurd (omega (arith, get_elem?-lt (upto n) i b))
        go ih (no l) (walks z q e) =
            let here : i ≡ n = omega arith in
            let x≡z : x ≡ z = some-injective x z (sym (rw here at b) ∙ q) in
            rw e (add_all-stands same Sooner same_refl (upto n) (next z) (next-sorted z) (λ u v m k. (ordered n).ahead n z u v (omega arith) q m k) y (rw x≡z at m))

    -- `same` is a bisimulation, by which targets keep their order
    module _ (same-trans : (x y z : X) → T (same x y) → T (same y z) → T (same x z))
        (same_next : (x z y : X) → T (same x z) → (z ≡ x) ⊎ Sooner z x → Memᴰ y (next x) → (y' : X) × Memᴰ y' (next z) × T (same y y') × ((y' ≡ y) ⊎ Sooner y' y)) where
      not_after : {x y z : X} → (x ≡ y) ⊎ Sooner x y → (y ≡ z) ⊎ Sooner y z → (x ≡ z) ⊎ Sooner x z
      not_after (inl e) (inl f) = inl (e ∙ f)
      not_after (inl e) (inr g) = inr (rw e g)
      not_after (inr g) (inl f) = inr (rw f at g)
      not_after {x} {y} {z} (inr g) (inr h) = inr (trans x y z g h)

      -- of what can be reached the same stands in the list, and does not come after it
      pub earliest : (n : ℕ) {x : X} → length (upto n) ≤ n → Reach next (s₀ ∷ []) x → Stands same Sooner x (upto n)
      earliest n {x} h (first m) =
          let e : x ≡ s₀ = Memᴰ.eq_of_singleton m in
          record { it = s₀; among = at_mem (upto n) 0 (known-first same next (s₀ ∷ []) n 0 refl); alike = rw e (same_refl s₀); order = inl (sym e) }
      earliest n {x} h (later {x = v} r m) =
          let u = earliest n h r in
          let a = mem_at u.among in
          let f = same_next v u.it x u.alike u.order m in
          let g = Walked-stands n a.0 u.it f.0 (omega (arith, get_elem?-lt (upto n) a.0 a.1)) a.1 f.1 in
          record { it = g.it; among = g.among; alike = same-trans x f.0 g.it f.2 g.alike; order = not_after g.order f.3 }
