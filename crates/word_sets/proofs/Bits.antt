-- Bits: laws of the digits of a word.
use mathlib.Core.Path.{◌≡◌, refl, sym, ap, ap₂, ◌∙◌, subst}
use mathlib.Core.Logic.{◌↔◌}
use mathlib.Core.Bool.{Bool, false, not, ◌||◌, ◌&&◌, and-false, and_self, or_comm}
use Prim.Native.Nat.{ℕ, zero, suc, ◌+◌, ◌-◌, ◌*◌, ◌/◌, ◌%◌, ◌^◌, ◌≤◌, ◌<◌, suc-le-suc, zero-le}
use native.Mathlib.Nat.{one-mul, zero-mul, zero-div, mod-lt, div-eq_of_lt, div-one, mul-div-mul_right, mul-mod_left, pow-suc, zero-lt-suc, lt_of_lt_of_le}
use native.Mathlib.Decide.{ℕ_discrete}
use native.Mathlib.Omega.{arith}
use borrow.Author.Tests.{ne_eqb}
use lib.Dec.{T, eqb, eqb→eq, eqb-zero-suc, eqb-suc-zero, eqb-suc-suc, lit<}
use lib.Pow.{shl_exact, shr-shr, pow_pos, pow-lt, pow_mono, high_ones}
use lib.Bits.{bit_and, bit_or, bit_xor, and_high, or_shr, or_mod, and_shr, and_mod, or_add_and, xor_add_and, xor_self, and_le_l, and_le_r}
use lib.Count.{count_trailing_zeros, under}
use Rattle.word_sets.specs.Sets.{bit}

-- ---- one digit

-- a digit is 0 or 1
digits : (P : ℕ → ℕ → Type 0) → P 0 0 → P 0 1 → P 1 0 → P 1 1 → (x y : ℕ) → x < 2 → y < 2 → P x y
digits P a b c d zero zero h g = a
digits P a b c d zero (suc zero) h g = b
digits P a b c d (suc zero) zero h g = c
digits P a b c d (suc zero) (suc zero) h g = d
digits P a b c d zero (suc (suc y)) h g = absurd (omega arith)
digits P a b c d (suc zero) (suc (suc y)) h g = absurd (omega arith)
digits P a b c d (suc (suc x)) y h g = absurd (omega arith)

pub bit-zero : (j : ℕ) → bit 0 j ≡ false
unfolding bit
bit-zero j = rw (zero-div (2 ^ j))

-- the lowest digit
pub bit-first : (x : ℕ) → bit x 0 ≡ eqb (x % 2) 1
unfolding bit
bit-first x = rw div-one

-- the digits of a shifted word
pub bit-shift : (x a j : ℕ) → bit (x / 2 ^ a) j ≡ bit x (a + j)
unfolding bit
bit-shift x a j = ap (λ (y : ℕ). eqb (y % 2) 1) (shr-shr x a j)

-- the digits above the lowest are those of the half
pub bit-suc : (x j : ℕ) → bit x (suc j) ≡ bit (x / 2) j
bit-suc x j = let e : suc j ≡ 1 + j = omega arith in ap (bit x) e ∙ sym (bit-shift x 1 j)

-- a word of k digits has no digit 1 above them
pub bit-above : (k x j : ℕ) → x < 2 ^ k → k ≤ j → bit x j ≡ false
unfolding bit
bit-above k x j h g = rw (div-eq_of_lt (lt_of_lt_of_le h (pow_mono {i = k} {j = j} g)))

-- the digits of a power of 2
bit-pow : (k j : ℕ) → bit (2 ^ k) j ≡ eqb j k
unfolding bit
bit-pow zero zero = refl
bit-pow zero (suc j) = rw (div-eq_of_lt (pow-lt {i = 0} {j = suc j} (zero-lt-suc j)), eqb-suc-zero)
bit-pow (suc k) zero = rw (div-one, pow-suc, eqb-zero-suc) (ap (λ (x : ℕ). eqb x 1) (mul-mod_left (2 ^ k) 2))
bit-pow (suc k) (suc j) =
    ap (λ (x : ℕ). eqb (x % 2) 1) (ap₂ (λ (a b : ℕ). a / b) (pow-suc 2 k) (pow-suc 2 j) ∙ mul-div-mul_right (2 ^ k) (2 ^ j) (lit< tt))
    ∙ bit-pow k j ∙ sym (eqb-suc-suc j k)

-- ---- operations digit by digit

module _ (f : ℕ → ℕ → ℕ) (g : Bool → Bool → Bool)
    (high : (a b k : ℕ) → f a b / 2 ^ k ≡ f (a / 2 ^ k) (b / 2 ^ k)) (low : (a b k : ℕ) → f a b % 2 ^ k ≡ f (a % 2 ^ k) (b % 2 ^ k))
    (each : (x y : ℕ) → x < 2 → y < 2 → eqb (f x y) 1 ≡ g (eqb x 1) (eqb y 1)) where
  bit-wise : (a b j : ℕ) → bit (f a b) j ≡ g (bit a j) (bit b j)
  unfolding bit
  bit-wise a b j =
      ap (λ (x : ℕ). eqb (x % 2) 1) (high a b j) ∙ ap (λ (x : ℕ). eqb x 1) (low (a / 2 ^ j) (b / 2 ^ j) 1)
      ∙ each (a / 2 ^ j % 2) (b / 2 ^ j % 2) (mod-lt (a / 2 ^ j) (lit< tt)) (mod-lt (b / 2 ^ j) (lit< tt))

pub bit-or : (a b j : ℕ) → bit (bit_or a b) j ≡ (bit a j || bit b j)
bit-or = bit-wise bit_or (λ p q. p || q) or_shr or_mod (digits (λ x y. eqb (bit_or x y) 1 ≡ (eqb x 1 || eqb y 1)) refl refl refl refl)

pub bit-and : (a b j : ℕ) → bit (bit_and a b) j ≡ (bit a j && bit b j)
bit-and = bit-wise bit_and (λ p q. p && q) and_shr and_mod (digits (λ x y. eqb (bit_and x y) 1 ≡ (eqb x 1 && eqb y 1)) refl refl refl refl)

-- ---- the word whose one digit 1 is digit k

and_one : (x k : ℕ) → bit_and x (2 ^ k) ≡ x / 2 ^ k % 2 * 2 ^ k
and_one x k = subst (λ (m : ℕ). bit_and x m ≡ x / 2 ^ k % 2 * 2 ^ k) (high_ones 1 k ∙ one-mul (2 ^ k)) (and_high x 1 k)

digit-test : (d p : ℕ) → d < 2 → 0 < p → not (eqb (d * p) 0) ≡ eqb d 1
digit-test zero p h q = rw zero-mul
digit-test (suc zero) p h q = ap not (ne_eqb (1 * p) 0 (λ e. omega (arith, e)))
digit-test (suc (suc d)) p h q = absurd (omega arith)

-- to test a digit
pub has-digit : (x k : ℕ) → not (eqb (bit_and x (2 ^ k)) 0) ≡ bit x k
unfolding bit
has-digit x k = ap (λ (m : ℕ). not (eqb m 0)) (and_one x k) ∙ digit-test (x / 2 ^ k % 2) (2 ^ k) (mod-lt (x / 2 ^ k) (lit< tt)) (pow_pos k)

-- to set a digit
pub with_digit : (x k j : ℕ) → bit (bit_or x (2 ^ k)) j ≡ (eqb j k || bit x j)
with_digit x k j = bit-or x (2 ^ k) j ∙ or_comm (bit x j) (bit (2 ^ k) j) ∙ ap (λ (b : Bool). b || bit x j) (bit-pow k j)

-- `1 << k` is that word; so a digit is tested and set by it
pub one_shl : (k : ℕ) → k < 64 → 1 * 2 ^ k % 2 ^ 64 ≡ 2 ^ k
one_shl k h = shl_exact {a = 1} 1 k 64 (lit< tt) (omega arith) ∙ one-mul (2 ^ k)

pub has-bit : (x k : ℕ) → k < 64 → not (eqb (bit_and x (1 * 2 ^ k % 2 ^ 64)) 0) ≡ bit x k
has-bit x k h = ap (λ (m : ℕ). not (eqb (bit_and x m) 0)) (one_shl k h) ∙ has-digit x k

pub bit-with : (x k : ℕ) → k < 64 → (j : ℕ) → bit (bit_or x (1 * 2 ^ k % 2 ^ 64)) j ≡ (eqb j k || bit x j)
bit-with x k h j = ap (λ (m : ℕ). bit (bit_or x m) j) (one_shl k h) ∙ with_digit x k j

-- ---- one less than a word that is not 0 has the digits of the word above its lowest digit 1, and has no 1 in the place of that
odd_digit : (x : ℕ) → T (bit x 0) → x % 2 ≡ 1
odd_digit x h = eqb→eq (x % 2) 1 (subst T (bit-first x) h)

even_digit : (x : ℕ) → ¬ T (bit x 0) → x % 2 ≡ 0
even_digit x h = go (ℕ_discrete (x % 2) 1)
  where
    go : Dec (x % 2 ≡ 1) → x % 2 ≡ 0
    go (yes e) = absurd (h (subst T (sym (bit-first x)) (rw e tt)))
    go (no n) = omega arith

pub Without-lowest : (t x : ℕ) → ((j : ℕ) → j < t → ¬ T (bit x j)) → T (bit x t) → (j : ℕ) → (bit x j && bit (x - 1) j) ≡ (not (eqb j t) && bit x j)
Without-lowest zero x none one zero = let e = odd_digit x one in let f : (x - 1) % 2 ≡ 0 = omega arith in rw (bit-first (x - 1), f, and-false (bit x 0))
Without-lowest zero x none one (suc j) =
    let e = odd_digit x one in
    let h : (x - 1) / 2 ≡ x / 2 = omega arith in
    rw (bit-suc (x - 1) j, h, ← bit-suc x j, and_self (bit x (suc j)), eqb-suc-zero)
Without-lowest (suc t) x none one zero = let f : bit x 0 ≡ false = bit-first x ∙ ap (λ (d : ℕ). eqb d 1) (even_digit x (none 0 (omega arith))) in rw (f, eqb-zero-suc)
Without-lowest (suc t) x none one (suc j) =
    let e = even_digit x (none 0 (omega arith)) in
    let p : ¬ (x ≡ 0) = λ z. absurd (subst T (ap (λ (y : ℕ). bit y (suc t)) z ∙ bit-zero (suc t)) one) in
    let h : (x - 1) / 2 ≡ x / 2 - 1 = omega (arith, p) in
    rw (bit-suc (x - 1) j, h, bit-suc x j, eqb-suc-suc) (Without-lowest t (x / 2) (λ i l q. none (suc i) (omega arith) (subst T (sym (bit-suc x i)) q)) (subst T (bit-suc x t) one) j)

-- ---- words by their digits

pub or_is_zero : (a b : ℕ) → (bit_or a b ≡ 0) ↔ ((a ≡ 0) × (b ≡ 0))
or_is_zero a b = (λ e. omega (arith, or_add_and a b, and_le_l a b, and_le_r a b), λ p. omega (arith, or_add_and a b))

pub xor_is_zero : (a b : ℕ) → (bit_xor a b ≡ 0) ↔ (a ≡ b)
xor_is_zero a b = (λ e. omega (arith, xor_add_and a b, and_le_l a b, and_le_r a b), λ e. rw e (xor_self b))

same-digit : (x y : ℕ) → x < 2 → y < 2 → eqb x 1 ≡ eqb y 1 → x ≡ y
same-digit = digits (λ x y. eqb x 1 ≡ eqb y 1 → x ≡ y) (λ e. refl) (λ e. absurd (subst T (sym e) tt)) (λ e. absurd (subst T e tt)) (λ e. refl)

-- two words with the same digits
pub same_bits : (k a b : ℕ) → a < 2 ^ k → b < 2 ^ k → ((j : ℕ) → j < k → bit a j ≡ bit b j) → a ≡ b
same_bits zero a b ha hb h = omega arith
same_bits (suc k) a b ha hb h =
    let low : a % 2 ≡ b % 2 = same-digit (a % 2) (b % 2) (omega arith) (omega arith) (sym (bit-first a) ∙ h 0 (suc-le-suc zero-le) ∙ bit-first b) in
    let high : a / 2 ≡ b / 2 = same_bits k (a / 2) (b / 2) (omega arith) (omega arith) (λ j l. sym (bit-suc a j) ∙ h (suc j) (suc-le-suc l) ∙ bit-suc b j) in
    omega arith

-- t is the place of the lowest digit 1 of x
pub record Lowest (k x t : ℕ) : Type 0 where
  pub inside : t < k
  pub one : T (bit x t)
  pub none : (j : ℕ) → j < t → ¬ T (bit x j)

-- a word that is not 0 has a lowest digit 1, as many places up as it has trailing zeros
pub trailing : (k x : ℕ) → x < 2 ^ k → ¬ (x ≡ 0) → Lowest k x (count_trailing_zeros k x)
unfolding count_trailing_zeros
trailing zero x h q = absurd (q (omega arith))
trailing (suc k) x h q = go (x % 2) refl (λ g z. trailing k (x / 2) g z)
  where
    go : (d : ℕ) → x % 2 ≡ d → (x / 2 < 2 ^ k → ¬ (x / 2 ≡ 0) → Lowest k (x / 2) (count_trailing_zeros k (x / 2))) → Lowest (suc k) x (under d (count_trailing_zeros k (x / 2)))
    go zero e ih =
        let p = ih (omega arith) (λ z. q (omega arith)) in
        record { inside = suc-le-suc p.inside; one = subst T (sym (bit-suc x (count_trailing_zeros k (x / 2)))) p.one; none = below p.none }
      where
        below : ((i : ℕ) → i < count_trailing_zeros k (x / 2) → ¬ T (bit (x / 2) i)) → (j : ℕ) → j < suc (count_trailing_zeros k (x / 2)) → ¬ T (bit x j)
        below r zero l t = subst T (bit-first x ∙ ap (λ (d : ℕ). eqb d 1) e) t
        below r (suc j) l t = r j (omega arith) (subst T (bit-suc x j) t)
    go (suc d) e ih =
        let one : x % 2 ≡ 1 = omega arith in
        record { inside = suc-le-suc zero-le; one = subst T (sym (bit-first x ∙ ap (λ (d : ℕ). eqb d 1) one)) tt; none = λ j l t. absurd (omega arith) }
