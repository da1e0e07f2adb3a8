-- DigitLaws: the digits of a number and of bytes, one digit or byte at a time, and examples of them.
use mathlib.Core.Path.{◌≡◌, refl}
use Prim.Native.Nat.{ℕ, zero, suc, ◌+◌, ◌/◌, ◌%◌, ◌<◌, ◌≤◌}
use native.Mathlib.Decide.{dec_lt}
use native.Mathlib.Omega.{arith}
use native.Mathlib.Nat.{not-suc-le-zero}
use mathlib.Core.List.{List, [], ◌∷◌, ◌++◌}
use borrow.Author.Tests.{le-ltb, lt-ltb}
use lib.ListN.{length}
use Rattle.line_text.specs.Digits.{decimal_of, decimal_within, hex_digits, hex_of}
use Rattle.line_text.specs.Line.{ascii, line}

-- ---- decimal
-- more places than the number needs change nothing
places : (k l n : ℕ) → n < k → n < l → decimal_within k n ≡ decimal_within l n
unfolding decimal_within
places zero l n h g = absurd (not-suc-le-zero h)
places (suc k) zero n h g = absurd (not-suc-le-zero g)
places (suc k) (suc l) n h g = go (dec_lt n 10) (λ s. places k l (n / 10) (omega arith) (omega arith))
  where
    go : Dec (n < 10) → (10 ≤ n → decimal_within k (n / 10) ≡ decimal_within l (n / 10)) → decimal_within (suc k) n ≡ decimal_within (suc l) n
    go (yes s) more = rw (lt-ltb n 10 s)
    go (no s) more = rw (more (omega arith))

-- a number below ten is one digit
pub decimal_one : (n : ℕ) → n < 10 → decimal_of n ≡ (48 + n % 10) ∷ []
unfolding decimal_of
decimal_one n h = rw (lt-ltb n 10 h)

-- the digits of a larger number are those of its tenth, and one more
pub decimal_more : (n : ℕ) → 10 ≤ n → decimal_of n ≡ decimal_of (n / 10) ++ ((48 + n % 10) ∷ [])
unfolding decimal_of
decimal_more n h = rw (le-ltb n 10 h, places n (suc (n / 10)) (n / 10) (omega arith) (omega arith))

-- ---- hexadecimal
-- the digits of bytes behind bytes stand behind theirs
pub hex_append : (s t : List ℕ) → hex_digits (s ++ t) ≡ hex_digits s ++ hex_digits t
unfolding hex_digits
hex_append [] t = refl
hex_append (b ∷ s) t = rw (hex_append s t)

-- no bytes are a point
pub hex_none : (s : List ℕ) → length s ≡ 0 → hex_of s ≡ 46 ∷ []
unfolding hex_of
hex_none [] e = refl
hex_none (b ∷ s) e = absurd (omega arith)

-- other bytes are their digits
pub hex_some : (s : List ℕ) → 0 < length s → hex_of s ≡ hex_digits s
unfolding hex_of
hex_some [] h = absurd (not-suc-le-zero h)
hex_some (b ∷ s) h = refl

-- ---- examples
numbers : line (decimal_of 0 ∷ decimal_of 9 ∷ decimal_of 10 ∷ decimal_of 18446744073709551615 ∷ []) ≡ ascii "0 9 10 18446744073709551615\n"
unfolding decimal_of
numbers = refl

bytes : line (hex_of [] ∷ hex_of (99 ∷ 15 ∷ []) ∷ []) ≡ ascii ". 630f\n"
unfolding hex_of
bytes = refl
