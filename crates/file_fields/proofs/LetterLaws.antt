-- LetterLaws: of letters that ascend, one in both cases is a capital with its small letter behind it.
use mathlib.Core.Path.{◌≡◌, refl, sym}
use mathlib.Core.Bool.{false, true}
use mathlib.Core.Logic.{◌⊎◌, inl, inr, ⊎_elim}
use mathlib.Core.List.Memᴰ
use mathlib.Core.List.{List, [], ◌∷◌, Memᴰ}
use mathlib.Core.Option.{some}
use Prim.Native.Nat.{ℕ, zero, suc, ◌-◌, ◌<◌, ◌≤◌}
use native.Mathlib.Omega.{arith}
use borrow.Author.Tests.{ltb-true}
use lib.Dec.{eqb, ltb}
use lib.ListN.{drop, get_or, get_elem?, length}
use lib.Seq.{drop-cons}
use Rattle.automata.specs.Letters.{SmallOf, key, same_key}
use Rattle.automata.specs.Lists.{any}
use Rattle.automata.proofs.Laws.{any-iff, Bool-ext, capital_and_small, eqb-iff, higher_is_key, key-key, mem_at}
use Rattle.file_fields.specs.Parts.{ascending, unlike_front}
use Rattle.file_fields.proofs.TestLaws.{and_both}

above : (x : ℕ) (l : List ℕ) (k b : ℕ) → ascending (x ∷ l) ≡ true → get_elem? l k ≡ some b → x < b
unfolding ascending
above x [] k b e f = let z : ◌≡◌ {A = ℕ} 0 1 = cc in absurd (omega arith)
above x (y ∷ l) zero b e f = let z : y ≡ b = cc in omega (arith, ltb-true x y (and_both (ltb x y) (ascending (y ∷ l)) e).0)
above x (y ∷ l) (suc k) b e f =
    let q = and_both (ltb x y) (ascending (y ∷ l)) e in
    omega (arith, ltb-true x y q.0, above y l k b q.1 f)

rest-ascends : (x : ℕ) (l : List ℕ) → ascending (x ∷ l) ≡ true → ascending l ≡ true
unfolding ascending
rest-ascends x [] e = refl
rest-ascends x (y ∷ l) e = (and_both (ltb x y) (ascending (y ∷ l)) e).1

-- what is left of letters that ascend does so too
left-ascends : (i : ℕ) (l : List ℕ) → ascending l ≡ true → ascending (drop i l) ≡ true
left-ascends zero l e = e
left-ascends (suc i) [] e = e
left-ascends (suc i) (x ∷ l) e = left-ascends i l (rest-ascends x l e)

-- ---- x and the letters behind it
module _ (x : ℕ) (l : List ℕ) (e : ascending (x ∷ l) ≡ true) where
  higher : {y : ℕ} → Memᴰ y l → x < y
  higher {y} m = let p = mem_at m in above x l p.0 y e p.1

  -- the same letter stands behind it just if its key does
  key-behind : any (same_key x) l ≡ any (eqb (key x)) l
  key-behind =
      let a = any-iff (same_key x) l in
      let b = any-iff (eqb (key x)) l in
      Bool-ext (any (same_key x) l) (any (eqb (key x)) l)
      (λ t. let p = a.0 t in b.1 (p.0, p.1, (eqb-iff (key x) p.0).1 (sym (higher_is_key x p.0 (higher p.1) ((eqb-iff (key x) (key p.0)).0 p.2)))))
      (λ t. let p = b.0 t in a.1 (p.0, p.1, (eqb-iff (key x) (key p.0)).1 (rw (← ((eqb-iff (key x) p.0).0 p.2)) (sym (key-key x)))))

  -- which it does not where it is the letter itself
  none-behind : key x ≡ x → any (same_key x) l ≡ false
  none-behind s = Bool-ext (any (same_key x) l) false
      (λ t. let p = (any-iff (eqb (key x)) l).0 (rw key-behind at t) in absurd (omega (arith, higher p.1, (eqb-iff (key x) p.0).0 p.2, s)))
      (λ t. absurd t)

-- the same at a place of the whole list
module _ (s : List ℕ) (i : ℕ) (e : ascending s ≡ true) (h : i < length s) where
  left : ascending (get_or s i 0 ∷ drop (suc i) s) ≡ true
  left = rw (← (drop-cons s i 0 h)) (left-ascends i s e)

  pub small-behind : any (same_key (get_or s i 0)) (drop (suc i) s) ≡ any (eqb (key (get_or s i 0))) (drop (suc i) s)
  small-behind = key-behind (get_or s i 0) (drop (suc i) s) left

  pub nothing-behind : key (get_or s i 0) ≡ get_or s i 0 → any (same_key (get_or s i 0)) (drop (suc i) s) ≡ false
  nothing-behind = none-behind (get_or s i 0) (drop (suc i) s) left

-- ---- where there is no capital, or no small letter, no letter is listed twice
-- the first is the lowest, and the last the highest
first-lowest : (l : List ℕ) → ascending l ≡ true → {y : ℕ} → Memᴰ y l → get_or l 0 0 ≤ y
first-lowest [] e m = absurd (Memᴰ.not-nil m)
first-lowest (x ∷ l) e {y} m = ⊎_elim (λ (f : y ≡ x). omega arith) (λ (k : Memᴰ y l). let h = higher x l e k in omega arith) (Memᴰ.cases_cons m)

last-highest : (x : ℕ) (l : List ℕ) → ascending (x ∷ l) ≡ true → {y : ℕ} → Memᴰ y (x ∷ l) → y ≤ get_or (x ∷ l) (length l) 0
last-highest x [] e {y} m = ⊎_elim (λ (f : y ≡ x). omega arith) (λ k. absurd (Memᴰ.not-nil k)) (Memᴰ.cases_cons m)
last-highest x (z ∷ l) e {y} m =
    let h = higher x (z ∷ l) e (Memᴰ.head refl) in
    let k = last-highest z l (rest-ascends x (z ∷ l) e) (Memᴰ.head refl) in
    ⊎_elim (λ (f : y ≡ x). omega arith) (λ (k : Memᴰ y (z ∷ l)). last-highest z l (rest-ascends x (z ∷ l) e) k) (Memᴰ.cases_cons m)

-- no capital has its small letter beside it
record OneCase (l : List ℕ) : Type 0 where
  apart : {x y : ℕ} → Memᴰ x l → Memᴰ y l → ¬ SmallOf x y

listed-once : (l : List ℕ) → ascending l ≡ true → OneCase l → unlike_front l ≡ length l
unfolding unlike_front
listed-once [] e o = refl
listed-once (x ∷ l) e o = rw (once, listed-once l (rest-ascends x l e) (record { apart = λ p q. o.apart (Memᴰ.tail p) (Memᴰ.tail q) }))
  where
    once : any (same_key x) l ≡ false
    once = Bool-ext (any (same_key x) l) false
        (λ t. let p = (any-iff (same_key x) l).0 t in
        o.apart (Memᴰ.head refl) (Memᴰ.tail p.1) (capital_and_small x p.0 (higher x l e p.1) ((eqb-iff (key x) (key p.0)).0 p.2)))
        (λ t. absurd t)

-- the lowest above all capitals, or the highest below all small letters
pub one-kind : (l : List ℕ) → ascending l ≡ true → (0x5A < get_or l 0 0) ⊎ (get_or l (length l - 1) 0 < 0x61) → unlike_front l ≡ length l
unfolding unlike_front
one-kind l e (inl h) = listed-once l e (record { apart = λ p q s. omega (arith, h, first-lowest l e p, s) })
one-kind [] e (inr h) = refl
one-kind (x ∷ l) e (inr h) =
    let n : length (x ∷ l) - 1 ≡ length l = omega arith in
    let top : get_or (x ∷ l) (length l) 0 < 0x61 = rw (← n) h in
    listed-once (x ∷ l) e (record { apart = λ p q s. omega (arith, top, last-highest x l e q, s) })
