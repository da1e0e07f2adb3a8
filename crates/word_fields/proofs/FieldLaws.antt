-- FieldLaws: laws of fields of 16 bits. A word is read as digits to the base 2 ^ 16, the lowest first, by recursion on the place.
use mathlib.Core.Path.{◌≡◌, refl, sym, ap, ap₂, ◌∙◌}
use mathlib.Core.Bool.{cond}
use mathlib.Core.Logic.{◌≢◌}
use mathlib.Core.List.{List}
use Prim.Native.Nat.{ℕ, zero, suc, ◌+◌, ◌-◌, ◌*◌, ◌/◌, ◌%◌, ◌^◌, ◌<◌}
use native.Mathlib.Nat.{mul_assoc, zero-div}
use native.Mathlib.Decide.{ℕ_discrete}
use native.Mathlib.Omega.{arith}
use borrow.Author.Tests.{eq-eqb, ne_eqb}
use lib.Dec.{eqb}
use lib.ListN.{length, get_or, set}
use lib.Pow.{pow-add, shr-shr, shl_exact}
use lib.Bits.{bit_and, bit_or, and_zero_r, or_zero_r, and_mask, and_shr, and_mod, or_shr, or_mod}
use lib.Seq.{get_or-set_same, get_or-set_other}
use Rattle.word_fields.specs.Fields.{field}

-- ---- digit q of x, and x with v for it

abbrev pub digit_of : ℕ → ℕ → ℕ
digit_of x q = x / 2 ^ (16 * q) % 65536

-- digit q all zeros, the others all ones
abbrev mask_of : ℕ → ℕ
mask_of q = (2 ^ 64 - 1) - 65535 * 2 ^ (16 * q) % 2 ^ 64

abbrev pub put_of : ℕ → ℕ → ℕ → ℕ
put_of x q v = bit_or (bit_and x (mask_of q)) (v * 2 ^ (16 * q) % 2 ^ 64)

at_suc : (v q : ℕ) → v * 2 ^ (16 * suc q) ≡ v * 2 ^ (16 * q) * 65536
at_suc v q = let e : 16 * suc q ≡ 16 * q + 16 = omega arith in ap (λ (n : ℕ). v * n) (ap (λ (n : ℕ). 2 ^ n) e ∙ pow-add 2 (16 * q) 16) ∙ sym (mul_assoc v (2 ^ (16 * q)) 65536)

digit-suc : (x q : ℕ) → digit_of x (suc q) ≡ digit_of (x / 65536) q
digit-suc x q = let e : 16 * suc q ≡ 16 + 16 * q = omega arith in ap (λ (n : ℕ). x / 2 ^ n % 65536) e ∙ ap (λ (n : ℕ). n % 65536) (sym (shr-shr x 16 (16 * q)))

-- ---- a word with d for digit q and 0 for the others

placed-suc : (d q p : ℕ) → digit_of (d * 2 ^ (16 * suc q)) (suc p) ≡ digit_of (d * 2 ^ (16 * q)) p
placed-suc d q p =
    let e : d * 2 ^ (16 * suc q) / 65536 ≡ d * 2 ^ (16 * q) = omega (arith, at_suc d q) in
    digit-suc (d * 2 ^ (16 * suc q)) p ∙ ap (λ (y : ℕ). digit_of y p) e

placed_same : (d q : ℕ) → d < 65536 → digit_of (d * 2 ^ (16 * q)) q ≡ d
placed_same d zero h = omega arith
placed_same d (suc q) h = placed-suc d q q ∙ placed_same d q h

placed-other : (d q p : ℕ) → d < 65536 → p ≢ q → digit_of (d * 2 ^ (16 * q)) p ≡ 0
placed-other d zero zero h n = absurd (n refl)
placed-other d zero (suc p) h n =
    let e : d * 2 ^ (16 * 0) / 65536 ≡ 0 = omega arith in
    digit-suc (d * 2 ^ (16 * 0)) p ∙ ap (λ (y : ℕ). digit_of y p) e ∙ ap (λ (y : ℕ). y % 65536) (zero-div (2 ^ (16 * p)))
placed-other d (suc q) zero h n = omega (arith, at_suc d q)
placed-other d (suc q) (suc p) h n = placed-suc d q p ∙ placed-other d q p h (λ s. n (ap suc s))

-- a digit that is shifted to its place in a word of four loses nothing
shifted : (v q : ℕ) → v < 65536 → q < 4 → v * 2 ^ (16 * q) % 2 ^ 64 ≡ v * 2 ^ (16 * q)
shifted v q h g = shl_exact {a = v} 16 (16 * q) 64 h (omega arith)

-- ---- clearing a digit, and writing it

digit_and : (a b p : ℕ) → digit_of (bit_and a b) p ≡ bit_and (digit_of a p) (digit_of b p)
digit_and a b p = ap (λ (y : ℕ). y % 65536) (and_shr a b (16 * p)) ∙ and_mod (a / 2 ^ (16 * p)) (b / 2 ^ (16 * p)) 16

digit_or : (a b p : ℕ) → digit_of (bit_or a b) p ≡ bit_or (digit_of a p) (digit_of b p)
digit_or a b p = ap (λ (y : ℕ). y % 65536) (or_shr a b (16 * p)) ∙ or_mod (a / 2 ^ (16 * p)) (b / 2 ^ (16 * p)) 16

-- what holds of each of the four digits
each : (P : ℕ → Type 0) → P 0 → P 1 → P 2 → P 3 → (q : ℕ) → q < 4 → P q
each P a b c d zero h = a
each P a b c d (suc zero) h = b
each P a b c d (suc (suc zero)) h = c
each P a b c d (suc (suc (suc zero))) h = d
each P a b c d (suc (suc (suc (suc q)))) h = absurd (omega arith)

mask_digit : (q : ℕ) → q < 4 → (p : ℕ) → p < 4 → digit_of (mask_of q) p ≡ cond (eqb p q) 0 65535
mask_digit =
    each (λ q. (p : ℕ) → p < 4 → digit_of (mask_of q) p ≡ cond (eqb p q) 0 65535)
    (each (λ p. digit_of (mask_of 0) p ≡ cond (eqb p 0) 0 65535) refl refl refl refl)
    (each (λ p. digit_of (mask_of 1) p ≡ cond (eqb p 1) 0 65535) refl refl refl refl)
    (each (λ p. digit_of (mask_of 2) p ≡ cond (eqb p 2) 0 65535) refl refl refl refl)
    (each (λ p. digit_of (mask_of 3) p ≡ cond (eqb p 3) 0 65535) refl refl refl refl)

module _ (x q v : ℕ) (g : q < 4) (h : v < 65536) where
  put-digit : (p : ℕ) → p < 4 → digit_of (put_of x q v) p ≡ bit_or (bit_and (digit_of x p) (cond (eqb p q) 0 65535)) (digit_of (v * 2 ^ (16 * q)) p)
  put-digit p l =
      digit_or (bit_and x (mask_of q)) (v * 2 ^ (16 * q) % 2 ^ 64) p
      ∙ ap₂ bit_or (digit_and x (mask_of q) p ∙ ap (bit_and (digit_of x p)) (mask_digit q g p l)) (ap (λ (y : ℕ). digit_of y p) (shifted v q h g))

  put_same : digit_of (put_of x q v) q ≡ v
  put_same = put-digit q g ∙ rw (eq-eqb q q refl, and_zero_r) (placed_same v q h)

  put_other : (p : ℕ) → p < 4 → p ≢ q → digit_of (put_of x q v) p ≡ digit_of x p
  put_other p l n =
      let e : digit_of x p % 65536 ≡ digit_of x p = omega arith in
      put-digit p l ∙ rw (ne_eqb p q n, placed-other v q p h n, or_zero_r) (and_mask (digit_of x p) 16 ∙ e)

-- ---- fields of lent words

-- a field whose word is as it was
pub field-same : (w w' : List ℕ) (base k : ℕ) → get_or w' (base + k / 4) 0 ≡ get_or w (base + k / 4) 0 → field w' base k ≡ field w base k
unfolding field
field-same w w' base k e = ap (λ (x : ℕ). digit_of x (k % 4)) e

-- field k is written
pub put-field : (w : List ℕ) (base k v : ℕ) → base + k / 4 < length w → v < 65536 → (j : ℕ)
    → field (set w (base + k / 4) (put_of (get_or w (base + k / 4) 0) (k % 4) v)) base j ≡ cond (eqb j k) v (field w base j)
unfolding field
put-field w base k v h g j = go (ℕ_discrete (j / 4) (k / 4)) (ℕ_discrete j k)
  where
    new : List ℕ
    new = set w (base + k / 4) (put_of (get_or w (base + k / 4) 0) (k % 4) v)

    mine : j / 4 ≡ k / 4 → digit_of (get_or new (base + j / 4) 0) (j % 4) ≡ digit_of (put_of (get_or w (base + j / 4) 0) (k % 4) v) (j % 4)
    mine e = rw (e, get_or-set_same w (base + k / 4) (put_of (get_or w (base + k / 4) 0) (k % 4) v) 0 h)

    go : Dec (j / 4 ≡ k / 4) → Dec (j ≡ k) → digit_of (get_or new (base + j / 4) 0) (j % 4) ≡ cond (eqb j k) v (digit_of (get_or w (base + j / 4) 0) (j % 4))
    go (yes e) (yes f) =
        let m : j % 4 ≡ k % 4 = omega arith in
        rw (eq-eqb j k f) (mine e ∙ ap (λ (q : ℕ). digit_of (put_of (get_or w (base + j / 4) 0) q v) (j % 4)) (sym m) ∙ put_same (get_or w (base + j / 4) 0) (j % 4) v (omega arith) g)
    go (yes e) (no n) = rw (ne_eqb j k n) (mine e ∙ put_other (get_or w (base + j / 4) 0) (k % 4) v (omega arith) g (j % 4) (omega arith) (λ p. n (omega arith)))
    go (no n) d =
        rw (ne_eqb j k (λ p. n (omega arith)))
        (ap (λ (x : ℕ). digit_of x (j % 4)) (get_or-set_other w (base + k / 4) (base + j / 4) (put_of (get_or w (base + k / 4) 0) (k % 4) v) 0 (λ p. n (omega arith))))

-- ---- a word of ones alone

abbrev pub all_ones : ℕ
all_ones = 0xFFFF_FFFF_FFFF_FFFF

all_ones_lem : (q : ℕ) → q < 4 → digit_of all_ones q ≡ 65535
all_ones_lem = each (λ q. digit_of all_ones q ≡ 65535) refl refl refl refl

-- every field of it is 65535
pub field-ones : (w : List ℕ) (base k : ℕ) → get_or w (base + k / 4) 0 ≡ all_ones → field w base k ≡ 65535
unfolding field
field-ones w base k e = rw e (all_ones_lem (k % 4) (omega arith))
