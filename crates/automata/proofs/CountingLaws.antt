-- CountingLaws: a number of things is one number; exactly n and more than n exclude each other.
use mathlib.Core.Path.{◌∙◌, ◌≡◌, ap, refl, sym}
use mathlib.Core.Logic.{◌↔◌, ◌⊎◌, inl, inr, ⊎_elim}
use Prim.Native.Nat.{◌≤◌, suc, zero-le, ℕ}
use lib.ListN.{length}
use mathlib.Core.List.Memᴰ
use mathlib.Core.List.{List, Memᴰ, [], ◌∷◌}
use native.Mathlib.Omega.{arith}
use Rattle.automata.specs.Counting.{Apart, Exactly, MoreThan}

record Without {A : Type 0} (x : A) (m : List A) : Type 0 where
  rest : List A
  shorter : length m ≡ suc (length rest)
  moved_register : (y : A) → Memᴰ y m → (y ≡ x) ⊎ Memᴰ y rest

without : {A : Type 0} {x : A} {m : List A} → Memᴰ x m → Without x m
without {A} {x} (Memᴰ.head {x = z} {xs = zs} e) = record { rest = zs; shorter = refl; moved_register = λ y k. ⊎_elim (λ (f : y ≡ z). inl (f ∙ sym e)) (λ (k : Memᴰ y zs). inr k) (Memᴰ.cases_cons k) }
without {A} {x} (Memᴰ.tail {x = z} {xs = zs} k) =
    let r = without k in
    record { rest = z ∷ r.rest; shorter = ap suc r.shorter; moved_register = λ y j. ⊎_elim (λ (f : y ≡ z). inr (Memᴰ.head f)) (λ (i : Memᴰ y zs). ⊎_elim (λ (f : y ≡ x). inl f) (λ (i : Memᴰ y r.rest). inr (Memᴰ.tail i)) (r.moved_register y i)) (Memᴰ.cases_cons j) }

-- the pigeonholes
pub apart-le : {A : Type 0} (l m : List A) → Apart l → ((x : A) → Memᴰ x l → Memᴰ x m) → length l ≤ length m
apart-le [] m d h = zero-le
apart-le {A} (x ∷ l) m d h = go (without (h x (Memᴰ.head refl))) (λ n. apart-le l n d.1)
  where
    go : Without x m → ((n : List A) → ((y : A) → Memᴰ y l → Memᴰ y n) → length l ≤ length n) → suc (length l) ≤ length m
    go r ih = omega (arith, r.shorter, ih r.rest (λ y k. ⊎_elim (λ e. absurd (d.0 (Memᴰ.cast (sym e) k))) (λ i. i) (r.moved_register y (h y (Memᴰ.tail k)))))

pub counts-unique : {A : Type 0} {P : A → Type 0} {m n : ℕ} → Exactly P m → Exactly P n → m ≡ n
counts-unique c d = omega (
  arith,
  c.many,
  d.many,
  apart-le c.list d.list c.apart (λ x k. (d.each x).1 ((c.each x).0 k)),
  apart-le d.list c.list d.apart (λ x k. (c.each x).1 ((d.each x).0 k)),
)

pub not_more : {A : Type 0} {P : A → Type 0} {m n : ℕ} → Exactly P m → m ≤ n → ¬ MoreThan P n
not_more c h d = omega (arith, c.many, d.many, apart-le d.list c.list d.apart (λ x k. (c.each x).1 (d.each x k)))

-- what holds of the same things has the same number
pub counts_same : {A : Type 0} {P Q : A → Type 0} {n : ℕ} → ((x : A) → P x ↔ Q x) → Exactly P n → Exactly Q n
counts_same f c = record { list = c.list; apart = c.apart; many = c.many; each = λ x. (λ k. (f x).0 ((c.each x).0 k), λ q. (c.each x).1 ((f x).1 q)) }

pub more_same : {A : Type 0} {P Q : A → Type 0} {n : ℕ} → ((x : A) → P x ↔ Q x) → MoreThan P n → MoreThan Q n
more_same f c = record { list = c.list; apart = c.apart; many = c.many; each = λ x k. (f x).0 (c.each x k) }
