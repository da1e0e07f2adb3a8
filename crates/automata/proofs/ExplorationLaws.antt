-- ExplorationLaws: the walk numbers exactly what can be reached, each once, or shows more than its limit.
use mathlib.Core.Path.{◌∙◌, ◌≡◌, ap, refl, sym}
use mathlib.Core.Logic.{◌↔◌, ◌⊎◌, inl, inr, ⊎_elim}
use Prim.Native.Nat.{◌+◌, ◌<◌, ◌≤◌, suc, zero, ℕ}
use lib.Dec.{T}
use lib.ListN.{get_elem?, length, length-append}
use mathlib.Core.Bool.{Bool, false, true}
use mathlib.Core.List.Memᴰ
use mathlib.Core.List.{List, Memᴰ, [], ◌++◌, ◌∷◌}
use mathlib.Core.Option.{Option, some-injective, none, some}
use native.Mathlib.Decide.{dec_lt}
use native.Mathlib.Nat.{add-suc, add-zero, le_of_suc-le-suc, not-suc-le-zero}
use native.Mathlib.Omega.{arith}
use Rattle.automata.specs.Automaton.{start}
use Rattle.automata.specs.Counting.{Apart, Exactly, MoreThan}
use Rattle.automata.specs.Exploration.{Distinct, Reach, add, add_all, first, has, known, later, targets, walk}
use Rattle.automata.proofs.ListLaws.{any-iff, at_mem, get_elem?-append, get_elem?-lt, get_elem?-none, get_elem?-some, mem_at, snoc_at_cases}

module _ {X : Type 0} (same : X → X → Bool) where
  pub has-iff : (x : X) (l : List X) → T (has same x l) ↔ ((y : X) × Memᴰ y l × T (same x y))
  unfolding has
  has-iff x l = any-iff (same x) l

  -- the one place where the test is taken apart
  pub add-cases : (l : List X) (x : X) → (T (has same x l) × (add same l x ≡ l)) ⊎ ((¬ T (has same x l)) × (add same l x ≡ l ++ x ∷ []))
  unfolding add
  add-cases l x = go (has same x l) refl
    where
      go : (b : Bool) → has same x l ≡ b → (T (has same x l) × (add same l x ≡ l)) ⊎ ((¬ T (has same x l)) × (add same l x ≡ l ++ x ∷ []))
      go true e = inl (rw e tt, rw e)
      go false e = inr (λ t. rw e at t, rw e)

  pub add_all-mem : (l xs : List X) {y : X} → Memᴰ y l → Memᴰ y (add_all same l xs)
  unfolding add_all
  add_all-mem l [] m = m
  add_all-mem l (x ∷ xs) {y} m = add_all-mem (add same l x) xs (⊎_elim (λ p. rw p.1 m) (λ p. rw p.1 (Memᴰ.append_left (x ∷ []) m)) (add-cases l x))

  pub add_all-at : (l xs : List X) (i : ℕ) {y : X} → get_elem? l i ≡ some y → get_elem? (add_all same l xs) i ≡ some y
  unfolding add_all
  add_all-at l [] i e = e
  add_all-at l (x ∷ xs) i e = add_all-at (add same l x) xs i (⊎_elim (λ p. rw p.1 e) (λ p. rw p.1 (get_elem?-append l (x ∷ []) i e)) (add-cases l x))

  pub add_all-length : (l xs : List X) → length l ≤ length (add_all same l xs)
  unfolding add_all
  add_all-length l [] = omega arith
  add_all-length l (x ∷ xs) =
      let h = add_all-length (add same l x) xs in
      ⊎_elim (λ p. omega (arith, ap length p.1)) (λ p. omega (arith, ap length p.1, length-append l (x ∷ []))) (add-cases l x)

  -- what is added is old or comes from the targets
  pub add_all-cases : (l xs : List X) {y : X} → Memᴰ y (add_all same l xs) → Memᴰ y l ⊎ Memᴰ y xs
  unfolding add_all
  add_all-cases l [] m = inl m
  add_all-cases l (x ∷ xs) {y} m = ⊎_elim one (λ (m : Memᴰ y xs). inr (Memᴰ.tail m)) (add_all-cases (add same l x) xs m)
    where
      one : Memᴰ y (add same l x) → Memᴰ y l ⊎ Memᴰ y (x ∷ xs)
      one m = ⊎_elim (λ p. inl (rw p.1 at m)) (λ p. ⊎_elim (λ (k : Memᴰ y l). inl k) (λ (k : Memᴰ y (x ∷ [])). inr (Memᴰ.head (Memᴰ.eq_of_singleton k))) (Memᴰ.append_cases l (rw p.1 at m))) (add-cases l x)

  -- by number: an old one keeps its number, and a new one stands behind the old ones
  pub add_all-at-cases : (l xs : List X) (j : ℕ) {y : X} → get_elem? (add_all same l xs) j ≡ some y → (get_elem? l j ≡ some y) ⊎ ((length l ≤ j) × Memᴰ y xs)
  unfolding add_all
  add_all-at-cases l [] j p = inl p
  add_all-at-cases l (x ∷ xs) j {y} p = ⊎_elim
      (λ q. ⊎_elim
      (λ r. inl (rw r.1 at q))
      (λ r. ⊎_elim (λ t. inl t) (λ t. inr (t.0, Memᴰ.head t.1)) (snoc_at_cases l x j (rw r.1 at q)))
      (add-cases l x))
      (λ q. inr (omega (arith, add_all-length l (x ∷ []), q.0), Memᴰ.tail q.1))
      (add_all-at-cases (add same l x) xs j p)

  snoc_distinct : (l : List X) (x : X) → ¬ T (has same x l) → Distinct same l → Distinct same (l ++ x ∷ [])
  snoc_distinct [] x n d = (λ y m. absurd (Memᴰ.not-nil m), tt)
  snoc_distinct (z ∷ l) x n d = (
    λ y m. ⊎_elim (d.0 y) (λ (k : Memᴰ y (x ∷ [])). λ t. n (new (Memᴰ.eq_of_singleton k) t)) (Memᴰ.append_cases l m),
    snoc_distinct l x (λ t. n (old t)) d.1,
  )
    where
      new : {y : X} → y ≡ x → T (same y z) → T (has same x (z ∷ l))
      new e t = (has-iff x (z ∷ l)).1 (z, Memᴰ.head refl, rw e at t)

      old : T (has same x l) → T (has same x (z ∷ l))
      old t = let p = (has-iff x l).0 t in (has-iff x (z ∷ l)).1 (p.0, Memᴰ.tail p.1, p.2)

  pub add_all-distinct : (l xs : List X) → Distinct same l → Distinct same (add_all same l xs)
  unfolding add_all
  add_all-distinct l [] d = d
  add_all-distinct l (x ∷ xs) d = add_all-distinct (add same l x) xs (⊎_elim (λ p. rw p.1 d) (λ p. rw p.1 (snoc_distinct l x p.0 d)) (add-cases l x))

  module _ (same_refl : (x : X) → T (same x x)) where
    pub add_all-has : (l xs : List X) {y : X} → Memᴰ y xs → T (has same y (add_all same l xs))
    unfolding add_all
    add_all-has l [] m = absurd (Memᴰ.not-nil m)
    add_all-has l (x ∷ xs) {y} m = ⊎_elim (λ (e : y ≡ x). rw e here) (λ (k : Memᴰ y xs). add_all-has (add same l x) xs k) (Memᴰ.cases_cons m)
      where
        there : T (has same x (add same l x))
        there = ⊎_elim (λ p. rw p.1 p.0) (λ p. rw p.1 ((has-iff x _).1 (x, Memᴰ.append_right l (Memᴰ.head refl), same_refl x))) (add-cases l x)

        here : T (has same x (add_all same (add same l x) xs))
        here = let p = (has-iff x (add same l x)).0 there in (has-iff x _).1 (p.0, add_all-mem (add same l x) xs p.1, p.2)

pub distinct_apart : {X : Type 0} (same : X → X → Bool) (eq : (x y : X) → T (same x y) ↔ (x ≡ y)) (l : List X) → Distinct same l → Apart l
distinct_apart same eq [] d = tt
distinct_apart same eq (x ∷ l) d = (λ k. d.0 x k ((eq x x).1 refl), distinct_apart same eq l d.1)

-- the one place where a step of the walk is taken apart: the walk has ended, or the one at n is walked
pub data Step {X : Type 0} (same : X → X → Bool) (next : X → List X) (l : List X) (n : ℕ) (after : List X) : Type 0 where
  ended : length l ≤ n → after ≡ l → Step same next l n after
  walks : (x : X) → get_elem? l n ≡ some x → after ≡ add_all same l (next x) → Step same next l n after

module _ {X : Type 0} (same : X → X → Bool) (next : X → List X) (start : List X) where
  abbrev at : ℕ → List X
  at n = known same next start n

  walk-distinct : (l : List X) (n : ℕ) → Distinct same l → Distinct same (walk same next l n)
  unfolding walk
  walk-distinct l n d = add_all-distinct same l (targets next (get_elem? l n)) d

  pub known-distinct : Distinct same start → (n : ℕ) → Distinct same (at n)
  unfolding known
  known-distinct d zero = d
  known-distinct d (suc n) = walk-distinct (at n) _ (known-distinct d n)

  pub step : (n : ℕ) → Step same next (at n) n (at (suc n))
  unfolding known walk
  step n = go (get_elem? (at n) n) refl
    where
      go : (o : Option X) → get_elem? (at n) n ≡ o → Step same next (at n) n (at (suc n))
      go none e = ended (get_elem?-none (at n) n e) (ap (λ (o : Option X). add_all same (at n) (targets next o)) e)
      go (some x) e = walks x e (ap (λ (o : Option X). add_all same (at n) (targets next o)) e)

  pub known-sound : (n : ℕ) {x : X} → Memᴰ x (at n) → Reach next start x
  unfolding known
  known-sound zero m = first m
  known-sound (suc n) {x} m = go (λ y. known-sound n {x = y}) (step n)
    where
      go : ((y : X) → Memᴰ y (at n) → Reach next start y) → Step same next (at n) n (at (suc n)) → Reach next start x
      go ih (ended h e) = ih x (rw e at m)
      go ih (walks z p e) = ⊎_elim (ih x) (later (ih z (at_mem (at n) n p))) (add_all-cases same (at n) (next z) (rw e at m))

  -- a number that is given stays
  pub known-keeps : (n i : ℕ) {x : X} → get_elem? (at n) i ≡ some x → get_elem? (at (suc n)) i ≡ some x
  known-keeps n i {x} p = go (step n)
    where
      go : Step same next (at n) n (at (suc n)) → get_elem? (at (suc n)) i ≡ some x
      go (ended h e) = rw e p
      go (walks z q e) = rw e (add_all-at same (at n) (next z) i p)

  pub known-first : (n i : ℕ) {x : X} → get_elem? start i ≡ some x → get_elem? (at n) i ≡ some x
  unfolding known
  known-first zero i p = p
  known-first (suc n) i p = known-keeps n i (known-first n i p)

  known-has : (n : ℕ) (y : X) → T (has same y (at n)) → T (has same y (at (suc n)))
  known-has n y t =
      let p = (has-iff same y (at n)).0 t in
      let q = mem_at p.1 in
      (has-iff same y (at (suc n))).1 (p.0, at_mem (at (suc n)) q.0 (known-keeps n q.0 q.1), p.2)

  -- the numbers up to the one that is walked were given before
  pub known-before : (n i : ℕ) {x : X} → i ≤ n → get_elem? (at (suc n)) i ≡ some x → get_elem? (at n) i ≡ some x
  known-before n i {x} h p = go (step n)
    where
      go : Step same next (at n) n (at (suc n)) → get_elem? (at n) i ≡ some x
      go (ended l e) = rw e at p
      go (walks z q e) =
          let lt = get_elem?-lt (at n) n q in
          let r = get_elem?-some (at n) i (omega arith) in
          let k = known-keeps n i r.1 in r.1 ∙ sym k ∙ p

  pub known-mono : (n : ℕ) → length (at n) ≤ length (at (suc n))
  known-mono n = go (step n)
    where
      go : Step same next (at n) n (at (suc n)) → length (at n) ≤ length (at (suc n))
      go (ended l e) = omega (arith, ap length e)
      go (walks z q e) = omega (arith, ap length e, add_all-length same (at n) (next z))

  pub known-long : (n k : ℕ) → length (at n) ≤ length (at (n + k))
  known-long n zero = rw add-zero (omega arith)
  known-long n (suc k) = rw add-suc (omega (arith, known-long n k, known-mono (n + k)))

  -- once the walk has ended the list stays
  pub known-ended : (n k : ℕ) → length (at n) ≤ n → at (n + k) ≡ at n
  known-ended n zero h = rw add-zero
  known-ended n (suc k) h = rw add-suc (go (known-ended n k h) (step (n + k)))
    where
      go : at (n + k) ≡ at n → Step same next (at (n + k)) (n + k) (at (suc (n + k))) → at (suc (n + k)) ≡ at n
      go ih (ended l e) = e ∙ ih
      go ih (walks z q e) = absurd (omega (arith, ap length ih, get_elem?-lt (at (n + k)) (n + k) q))

  module _ (same_refl : (x : X) → T (same x x)) where
    -- the targets of each one that was walked have numbers
    pub known-walked : (n i : ℕ) {x y : X} → i < n → get_elem? (at n) i ≡ some x → Memᴰ y (next x) → T (has same y (at n))
    known-walked zero i h p m = absurd (not-suc-le-zero h)
    known-walked (suc n) i {x} {y} h p m = go (λ l. known-walked n i l b m) (dec_lt i n) (step n)
      where
        b : get_elem? (at n) i ≡ some x
        b = known-before n i (le_of_suc-le-suc h) p

        go : (i < n → T (has same y (at n))) → Dec (i < n) → Step same next (at n) n (at (suc n)) → T (has same y (at (suc n)))
        go ih (yes l) s = known-has n y (ih l)
        go ih (no l) (ended k e) = absurd (omega (arith, get_elem?-lt (at n) i b))
        go ih (no l) (walks z q e) =
            let same_place : i ≡ n = omega arith in
            let x≡z : x ≡ z = some-injective x z (sym (rw same_place at b) ∙ q) in
            rw e (add_all-has same same_refl (at n) (next z) (rw x≡z at m))

    pub known-closed : (n : ℕ) {x y : X} → length (at n) ≤ n → Memᴰ x (at n) → Memᴰ y (next x) → T (has same y (at n))
    known-closed n h k m = let p = mem_at k in known-walked n p.0 (omega (arith, get_elem?-lt (at n) p.0 p.1)) p.1 m

    module _ (same-eq : (x y : X) → T (same x y) → x ≡ y) where
      has-mem : (x : X) (l : List X) → T (has same x l) → Memᴰ x l
      has-mem x l t = let p = (has-iff same x l).0 t in rw (same-eq x p.0 p.2) p.1

      start-mem : (n : ℕ) {x : X} → Memᴰ x start → Memᴰ x (at n)
      unfolding known
      start-mem zero m = m
      start-mem (suc n) {x} m = let p = mem_at (start-mem n m) in at_mem (at (suc n)) p.0 (known-keeps n p.0 p.1)

      pub known-complete : (n : ℕ) {x : X} → length (at n) ≤ n → Reach next start x → Memᴰ x (at n)
      known-complete n h (first m) = start-mem n m
      known-complete n {x} h (later r m) = has-mem x (at n) (known-closed n h (known-complete n h r) m)

-- ---- the walk counts what can be reached, up to its limit
module _ {X : Type 0} (same : X → X → Bool) (eq : (x y : X) → T (same x y) ↔ (x ≡ y)) (next : X → List X) (start : List X) (d : Distinct same start) where
  pub walk-counts : (L : ℕ) → length (known same next start L) ≤ L → Exactly (Reach next start) (length (known same next start L))
  walk-counts L h = record {
    list = known same next start L;
    apart = distinct_apart same eq (known same next start L) (known-distinct same next start d L);
    each = λ x. (λ k. known-sound same next start L k, λ r. known-complete same next start (λ x. (eq x x).1 refl) (λ x y. (eq x y).0) L h r);
    many = refl;
  }

  pub walk_more : (L : ℕ) → L < length (known same next start L) → MoreThan (Reach next start) L
  walk_more L h = record { list = known same next start L; apart = distinct_apart same eq (known same next start L) (known-distinct same next start d L); each = λ x k. known-sound same next start L k; many = h }
