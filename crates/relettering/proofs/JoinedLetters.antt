-- JoinedLetters: the joined list has the first list's bytes and those of the second that match none of them; no two of its bytes stand for
-- one letter; and where the second list has no letter that the first lacks, it is the first.
use mathlib.Core.Path.{◌≡◌, ◌∙◌, ap, refl, sym}
use mathlib.Core.Logic.{◌↔◌, ◌⊎◌, inl, inr, ⊎_elim}
use mathlib.Core.Bool.{Bool, cond, false, true}
use mathlib.Core.List.Memᴰ
use mathlib.Core.List.{List, Memᴰ, [], ◌∷◌}
use Prim.Native.Nat.{ℕ, ◌+◌, ◌≤◌, suc}
use native.Mathlib.Omega.{arith}
use lib.Dec.{T, ltb}
use lib.ListN.{length}
use Rattle.automata.specs.Counting.{Apart}
use Rattle.automata.specs.Letters.{key, keys, same_key}
use Rattle.automata.specs.Lists.{any}
use Rattle.automata.proofs.Laws.{listed-iff}
use Rattle.relettering.specs.Relettering.{inserted, joined_letters}

-- ---- inserting
pub inserted-iff : (x : ℕ) (l : List ℕ) (y : ℕ) → Memᴰ y (inserted x l) ↔ ((y ≡ x) ⊎ Memᴰ y l)
unfolding inserted
inserted-iff x [] y = (λ m. Memᴰ.cases_cons m, ⊎_elim (λ e. Memᴰ.head e) (λ m. Memᴰ.tail m))
inserted-iff x (z ∷ l) y = go (ltb x z) (inserted-iff z l y) (inserted-iff x l y)
  where
    go : (b : Bool) → Memᴰ y (inserted z l) ↔ ((y ≡ z) ⊎ Memᴰ y l) → Memᴰ y (inserted x l) ↔ ((y ≡ x) ⊎ Memᴰ y l)
        → Memᴰ y (cond b (x ∷ inserted z l) (z ∷ inserted x l)) ↔ ((y ≡ x) ⊎ Memᴰ y (z ∷ l))
    go true f g = (
      λ m. ⊎_elim inl (λ (k : Memᴰ y (inserted z l)). inr (⊎_elim (λ (e : y ≡ z). Memᴰ.head e) (λ (n : Memᴰ y l). Memᴰ.tail n) (f.0 k))) (Memᴰ.cases_cons m),
      λ s. ⊎_elim (λ (e : y ≡ x). Memᴰ.head e) (λ (m : Memᴰ y (z ∷ l)). Memᴰ.tail (f.1 (Memᴰ.cases_cons m))) s,
    )
    go false f g = (
      λ m. ⊎_elim (λ (e : y ≡ z). inr (Memᴰ.head e)) (λ (k : Memᴰ y (inserted x l)). ⊎_elim (λ (e : y ≡ x). inl e) (λ (n : Memᴰ y l). inr (Memᴰ.tail n)) (g.0 k)) (Memᴰ.cases_cons m),
      λ s. ⊎_elim (λ (e : y ≡ x). Memᴰ.tail (g.1 (inl e))) (λ (m : Memᴰ y (z ∷ l)). ⊎_elim (λ (e : y ≡ z). Memᴰ.head e) (λ (n : Memᴰ y l). Memᴰ.tail (g.1 (inr n))) (Memᴰ.cases_cons m)) s,
    )

pub inserted-long : (x : ℕ) (l : List ℕ) → length (inserted x l) ≡ suc (length l)
unfolding inserted
inserted-long x [] = refl
inserted-long x (y ∷ l) = go (ltb x y) (inserted-long y l) (inserted-long x l)
  where
    go : (b : Bool) → length (inserted y l) ≡ suc (length l) → length (inserted x l) ≡ suc (length l) → length (cond b (x ∷ inserted y l) (y ∷ inserted x l)) ≡ suc (suc (length l))
    go true f g = ap suc f
    go false f g = ap suc g

-- a letter among others that is not there, and they stay apart
among : (x z : ℕ) (l : List ℕ) → ¬ (key x ≡ key z) → ¬ Memᴰ (key x) (keys l) → ¬ Memᴰ (key x) (keys (inserted z l))
among x z l other n m =
    let p = Memᴰ.of_map key (inserted z l) m in
    ⊎_elim (λ (e : p.0 ≡ z). other (sym p.2 ∙ ap key e)) (λ (k : Memᴰ p.0 l). n (Memᴰ.cast (sym p.2) (Memᴰ.map key k))) ((inserted-iff z l p.0).0 p.1)

inserted-apart : (x : ℕ) (l : List ℕ) → ¬ Memᴰ (key x) (keys l) → Apart (keys l) → Apart (keys (inserted x l))
unfolding inserted
inserted-apart x [] n a = (n, tt)
inserted-apart x (y ∷ l) n a = go (ltb x y) (inserted-apart y l a.0 a.1) (inserted-apart x l (λ m. n (Memᴰ.tail m)) a.1)
  where
    go : (b : Bool) → Apart (keys (inserted y l)) → Apart (keys (inserted x l)) → Apart (keys (cond b (x ∷ inserted y l) (y ∷ inserted x l)))
    go true f g = (among x y l (λ e. n (Memᴰ.head e)) (λ m. n (Memᴰ.tail m)), f)
    go false f g = (among y x l (λ e. n (Memᴰ.head (sym e))) a.0, g)

-- ---- joining
module _ (a : List ℕ) where
  -- THE LAW of the joined list: the first's bytes, and those of the second that match none of them
  pub joined-iff : (b : List ℕ) (y : ℕ) → Memᴰ y (joined_letters a b) ↔ (Memᴰ y a ⊎ (Memᴰ y b × ¬ Memᴰ (key y) (keys a)))
  unfolding joined_letters
  joined-iff [] y = (inl, ⊎_elim (λ m. m) (λ p. absurd (Memᴰ.not-nil p.0)))
  joined-iff (x ∷ b) y = go (any (same_key x) a) (listed-iff x a) (joined-iff b y)
    where
      go : (t : Bool) → T t ↔ Memᴰ (key x) (keys a) → Memᴰ y (joined_letters a b) ↔ (Memᴰ y a ⊎ (Memᴰ y b × ¬ Memᴰ (key y) (keys a)))
          → Memᴰ y (cond t (joined_letters a b) (inserted x (joined_letters a b))) ↔ (Memᴰ y a ⊎ (Memᴰ y (x ∷ b) × ¬ Memᴰ (key y) (keys a)))
      go true i ih = (
        λ m. ⊎_elim inl (λ (p : Memᴰ y b × ¬ Memᴰ (key y) (keys a)). inr (Memᴰ.tail p.0, p.1)) (ih.0 m),
        λ s. ih.1 (⊎_elim inl (λ (p : Memᴰ y (x ∷ b) × ¬ Memᴰ (key y) (keys a)). ⊎_elim (λ (e : y ≡ x). absurd (p.1 (rw e (i.0 tt)))) (λ (m : Memᴰ y b). inr (m, p.1)) (Memᴰ.cases_cons p.0)) s),
      )
      go false i ih = let f = inserted-iff x (joined_letters a b) y in (
        λ m. ⊎_elim
            (λ (e : y ≡ x). inr (Memᴰ.head e, λ k. i.1 (rw e at k)))
            (λ (k : Memᴰ y (joined_letters a b)). ⊎_elim inl (λ (p : Memᴰ y b × ¬ Memᴰ (key y) (keys a)). inr (Memᴰ.tail p.0, p.1)) (ih.0 k))
            (f.0 m),
        λ s. f.1 (⊎_elim (λ (m : Memᴰ y a). inr (ih.1 (inl m))) (λ (p : Memᴰ y (x ∷ b) × ¬ Memᴰ (key y) (keys a)). ⊎_elim inl (λ (m : Memᴰ y b). inr (ih.1 (inr (m, p.1)))) (Memᴰ.cases_cons p.0)) s),
      )

  -- the letters of both are in it
  pub first-inside : (b : List ℕ) (k : ℕ) → Memᴰ k (keys a) → Memᴰ k (keys (joined_letters a b))
  first-inside b k m = let p = Memᴰ.of_map key a m in Memᴰ.cast (sym p.2) (Memᴰ.map key ((joined-iff b p.0).1 (inl p.1)))

  pub second-inside : (b : List ℕ) (k : ℕ) → Memᴰ k (keys b) → Memᴰ k (keys (joined_letters a b))
  second-inside b k m = let p = Memᴰ.of_map key b m in go p.0 p.1 p.2 (any (same_key p.0) a) (listed-iff p.0 a)
    where
      go : (x : ℕ) → Memᴰ x b → key x ≡ k → (t : Bool) → T t ↔ Memᴰ (key x) (keys a) → Memᴰ k (keys (joined_letters a b))
      go x m e true i = first-inside b k (Memᴰ.cast (sym e) (i.0 tt))
      go x m e false i = Memᴰ.cast (sym e) (Memᴰ.map key ((joined-iff b x).1 (inr (m, i.1))))

  -- no letter stands in it twice
  pub joined-apart : (b : List ℕ) → Apart (keys a) → Apart (keys b) → Apart (keys (joined_letters a b))
  unfolding joined_letters
  joined-apart [] h g = h
  joined-apart (x ∷ b) h g = go (any (same_key x) a) (listed-iff x a) (joined-apart b h g.1)
    where
      go : (t : Bool) → T t ↔ Memᴰ (key x) (keys a) → Apart (keys (joined_letters a b)) → Apart (keys (cond t (joined_letters a b) (inserted x (joined_letters a b))))
      go true i ih = ih
      go false i ih =
          inserted-apart x (joined_letters a b)
          (λ m.
          let p = Memᴰ.of_map key (joined_letters a b) m in
          ⊎_elim (λ (k : Memᴰ p.0 a). i.1 (Memᴰ.cast (sym p.2) (Memᴰ.map key k))) (λ (k : Memᴰ p.0 b × ¬ Memᴰ (key p.0) (keys a)). g.0 (Memᴰ.cast (sym p.2) (Memᴰ.map key k.0))) ((joined-iff b p.0).0 p.1))
          ih

  -- a second list with no letter that the first lacks adds none
  pub joined-first : (b : List ℕ) → ((k : ℕ) → Memᴰ k (keys b) → Memᴰ k (keys a)) → joined_letters a b ≡ a
  unfolding joined_letters
  joined-first [] h = refl
  joined-first (x ∷ b) h = go (any (same_key x) a) (listed-iff x a) (joined-first b (λ k m. h k (Memᴰ.tail m)))
    where
      go : (t : Bool) → T t ↔ Memᴰ (key x) (keys a) → joined_letters a b ≡ a → cond t (joined_letters a b) (inserted x (joined_letters a b)) ≡ a
      go true i ih = ih
      go false i ih = absurd (i.1 (h (key x) (Memᴰ.head refl)))

  -- one more byte of the second makes it longer by one, or leaves it
  pub joined-grows : (x : ℕ) (b : List ℕ) → (length (joined_letters a b) ≤ length (joined_letters a (x ∷ b))) × (length (joined_letters a (x ∷ b)) ≤ suc (length (joined_letters a b)))
  unfolding joined_letters
  joined-grows x b = go (any (same_key x) a)
    where
      go : (t : Bool) → let l = cond t (joined_letters a b) (inserted x (joined_letters a b)) in (length (joined_letters a b) ≤ length l) × (length l ≤ suc (length (joined_letters a b)))
      go true = (omega arith, omega arith)
      go false = let e = inserted-long x (joined_letters a b) in (omega (arith, e), omega (arith, e))

  -- so it is at least as long as the first and at most as long as both
  pub joined-long : (b : List ℕ) → (length a ≤ length (joined_letters a b)) × (length (joined_letters a b) ≤ length a + length b)
  joined-long [] = let e : joined_letters a [] ≡ a = joined-first [] (λ k m. absurd (Memᴰ.not-nil m)) in (omega (arith, ap length e), omega (arith, ap length e))
  joined-long (x ∷ b) = let f = joined-long b in let g = joined-grows x b in (omega (arith, f.0, g.0), omega (arith, f.1, g.1))

-- of two lists with the same letters, place by place, the joined list is the first
pub joined_same : (a b : List ℕ) → keys a ≡ keys b → joined_letters a b ≡ a
joined_same a b e = joined-first a b (λ k m. rw e m)

-- by example: c, e, m and then C, M, g; B, a and then A, b, c: a letter of both has the first list's byte
joined-here : joined_letters (0x63 ∷ 0x65 ∷ 0x6D ∷ []) (0x43 ∷ 0x4D ∷ 0x67 ∷ []) ≡ 0x63 ∷ 0x65 ∷ 0x67 ∷ 0x6D ∷ []
unfolding joined_letters key
joined-here = refl

joined-there : joined_letters (0x42 ∷ 0x61 ∷ []) (0x41 ∷ 0x62 ∷ 0x63 ∷ []) ≡ 0x42 ∷ 0x61 ∷ 0x63 ∷ []
unfolding joined_letters key
joined-there = refl
