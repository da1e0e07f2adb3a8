-- JoinedAscends: the joined list of two letter lists ascends strictly, as a file's letters do.
use mathlib.Core.Path.{◌≡◌, ap, refl}
use mathlib.Core.Logic.{◌↔◌, ⊎_elim}
use mathlib.Core.Bool.{Bool, ◌&&◌, cond, false, true}
use mathlib.Core.List.Memᴰ
use mathlib.Core.List.{List, Memᴰ, [], ◌∷◌}
use Prim.Native.Nat.{ℕ, ◌<◌, ◌≤◌}
use native.Mathlib.Decide.{dec_lt}
use native.Mathlib.Omega.{arith}
use borrow.Author.Tests.{lt-ltb, ltb-false}
use lib.Dec.{T, ltb}
use Rattle.automata.specs.Counting.{Apart}
use Rattle.automata.specs.Letters.{key, keys, same_key}
use Rattle.automata.specs.Lists.{any}
use Rattle.automata.proofs.Laws.{listed-iff}
use Rattle.relettering.specs.Relettering.{inserted, joined_letters}
use Rattle.relettering.proofs.Laws.{joined-iff}
use Rattle.file_fields.specs.Parts.{ascending}

-- two letters in order, and the rest from the second on
both_true : (a b : Bool) → (a && b) ≡ true → (a ≡ true) × (b ≡ true)
both_true true b e = (refl, e)
both_true false b e = let z : ◌≡◌ {A = ℕ} 0 1 = cc in absurd (omega arith)

apart-less : (x y : ℕ) → y ≤ x → ¬ (x ≡ y) → y < x
apart-less x y h n = go (dec_lt y x)
  where
    go : Dec (y < x) → y < x
    go (yes k) = k
    go (no k) = absurd (n (omega arith))

-- a byte below all others comes first
inserted-front : (y : ℕ) (l : List ℕ) → ascending (y ∷ l) ≡ true → inserted y l ≡ y ∷ l
unfolding inserted ascending
inserted-front y [] e = refl
inserted-front y (z ∷ l) e = let p = both_true (ltb y z) (ascending (z ∷ l)) e in rw p.0 (ap (λ (t : List ℕ). y ∷ t) (inserted-front z l p.1))

-- one more byte, behind a lower one
behind : (z x : ℕ) (l : List ℕ) → z < x → ascending (z ∷ l) ≡ true → ¬ Memᴰ x l → ascending (z ∷ inserted x l) ≡ true
unfolding inserted ascending
behind z x [] h e n = rw (lt-ltb z x h)
behind z x (y ∷ l) h e n = go (ltb x y) refl (λ k. behind y x l k (both_true (ltb z y) (ascending (y ∷ l)) e).1 (λ m. n (Memᴰ.tail m))) (inserted-front y l (both_true (ltb z y) (ascending (y ∷ l)) e).1)
  where
    go : (b : Bool) → ltb x y ≡ b → (y < x → ascending (y ∷ inserted x l) ≡ true) → inserted y l ≡ y ∷ l → ascending (z ∷ cond b (x ∷ inserted y l) (y ∷ inserted x l)) ≡ true
    go true q ih f = rw (f, lt-ltb z x h, q) (both_true (ltb z y) (ascending (y ∷ l)) e).1
    go false q ih f =
        let g : y < x = apart-less x y (ltb-false x y q) (λ s. n (Memᴰ.head s)) in
        rw (both_true (ltb z y) (ascending (y ∷ l)) e).0 (ih g)

inserted-ascends : (x : ℕ) (l : List ℕ) → ascending l ≡ true → ¬ Memᴰ x l → ascending (inserted x l) ≡ true
unfolding inserted ascending
inserted-ascends x [] e n = refl
inserted-ascends x (y ∷ l) e n = go (ltb x y) refl (inserted-front y l e)
  where
    go : (b : Bool) → ltb x y ≡ b → inserted y l ≡ y ∷ l → ascending (cond b (x ∷ inserted y l) (y ∷ inserted x l)) ≡ true
    go true q f = rw (f, q) e
    go false q f = behind y x l (apart-less x y (ltb-false x y q) (λ s. n (Memᴰ.head s))) e (λ m. n (Memᴰ.tail m))

-- THE LAW. The first list ascends, and no letter stands twice in the second: then the joined list ascends
pub joined-ascends : (a b : List ℕ) → ascending a ≡ true → Apart (keys b) → ascending (joined_letters a b) ≡ true
unfolding joined_letters
joined-ascends a [] e g = e
joined-ascends a (x ∷ b) e g = go (any (same_key x) a) (listed-iff x a) (joined-ascends a b e g.1)
  where
    go : (t : Bool) → T t ↔ Memᴰ (key x) (keys a) → ascending (joined_letters a b) ≡ true → ascending (cond t (joined_letters a b) (inserted x (joined_letters a b))) ≡ true
    go true i ih = ih
    go false i ih =
        inserted-ascends x (joined_letters a b) ih
        (λ m. ⊎_elim (λ (k : Memᴰ x a). i.1 (Memᴰ.map key k)) (λ (k : Memᴰ x b × ¬ Memᴰ (key x) (keys a)). g.0 (Memᴰ.map key k.0)) ((joined-iff a b x).0 m))
