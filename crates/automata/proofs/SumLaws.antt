-- SumLaws: sums over the letters, and how many words of one length there are at most (specs/Lengths.antt). Over
-- any states, and any test of them.
use mathlib.Core.Path.{◌∙◌, ◌≡◌, ap, ap₂, refl, sym}
use Prim.Native.Nat.{◌+◌, ◌*◌, ◌^◌, ◌<◌, ◌≤◌, suc, zero, ℕ}
use mathlib.Core.Bool.{Bool, cond, false, not, true}
use native.Mathlib.Decide.{dec_lt}
use native.Mathlib.Nat.{mul_comm, mul-zero, not-suc-le-zero, pow-le-pow_right, pow-suc, pow-zero, suc-mul, zero-mul}
use native.Mathlib.Numerals.{unary_clauses}
use native.Mathlib.Omega.{arith}
use Rattle.automata.specs.Lengths.{many_from, sum_below}

-- ---- sums
pub sum_ext : (a : ℕ) (f g : ℕ → ℕ) → ((l : ℕ) → l < a → f l ≡ g l) → sum_below a f ≡ sum_below a g
unfolding sum_below
sum_ext zero f g h = refl
sum_ext (suc a) f g h = ap₂ (λ (i j : ℕ). i + j) (sum_ext a f g (λ l k. h l (omega arith))) (h a (omega arith))

-- the first terms sum to no more than all of them
pub sum_part : (f : ℕ → ℕ) (b a : ℕ) → b ≤ a → sum_below b f ≤ sum_below a f
unfolding sum_below
sum_part f zero zero h = omega arith
sum_part f (suc b) zero h = absurd (not-suc-le-zero h)
sum_part f b (suc a) h = go (sum_part f b a) (dec_lt a b)
  where
    go : (b ≤ a → sum_below b f ≤ sum_below a f) → Dec (a < b) → sum_below b f ≤ sum_below a f + f a
    go ih (yes l) = let e : b ≡ suc a = omega arith in rw e (omega arith)
    go ih (no l) = omega (arith, ih (omega arith))

sum_add : (a : ℕ) (f g : ℕ → ℕ) → sum_below a (λ l. f l + g l) ≡ sum_below a f + sum_below a g
unfolding sum_below
sum_add zero f g = refl
sum_add (suc a) f g = let e = sum_add a f g in omega arith

sum_constant : (a c : ℕ) → sum_below a (λ _. c) ≡ a * c
unfolding sum_below
sum_constant zero c = sym (zero-mul c)
sum_constant (suc a) c = ap (λ (i : ℕ). i + c) (sum_constant a c) ∙ sym (suc-mul a c)

-- ---- words that pass and words that do not are all words of that length
pub many-both : {Q : Type 0} (δ : Q → ℕ → Q) (a : ℕ) (test : Q → Bool) (n : ℕ) (q : Q) → many_from δ a test n q + many_from δ a (λ p. not (test p)) n q ≡ a ^ n
unfolding many_from
many-both δ a test zero q = simp unary_clauses (go (test q))
  where
    go : (b : Bool) → cond b 1 0 + cond (not b) 1 0 ≡ 1
    go true = refl
    go false = refl
many-both δ a test (suc n) q =
    sym (sum_add a (λ l. many_from δ a test n (δ q l)) (λ l. many_from δ a (λ p. not (test p)) n (δ q l)))
    ∙ sum_ext a _ (λ _. a ^ n) (λ l h. many-both δ a test n (δ q l))
    ∙ sum_constant a (a ^ n)
    ∙ simp unary_clauses (mul_comm a (a ^ n))

module _ {Q : Type 0} (δ : Q → ℕ → Q) (a : ℕ) (test : Q → Bool) where
  -- no more than there are words
  many-most : (n : ℕ) (q : Q) → many_from δ a test n q ≤ a ^ n
  many-most n q = omega (arith, many-both δ a test n q)

  -- a number that all words of n letters do not exceed, those of fewer letters don't exceed either; the empty word is one word
  pub many-fits : (n bound : ℕ) → 1 ≤ bound → a ^ n ≤ bound → (k : ℕ) → k ≤ n → (q : Q) → many_from δ a test k q ≤ bound
  many-fits n bound one fits k h q = go (dec_lt 0 a) k h (many-most k q)
    where
      go : Dec (0 < a) → (k : ℕ) → k ≤ n → many_from δ a test k q ≤ a ^ k → many_from δ a test k q ≤ bound
      go (yes p) k h m = omega (arith, m, fits, pow-le-pow_right p h)
      go (no p) zero h m = omega (arith, pow-zero a)
      go (no p) (suc k) h m = let e : a ≡ 0 = omega arith in omega (arith, pow-suc a k ∙ ap (λ (i : ℕ). a ^ k * i) e ∙ mul-zero (a ^ k))
