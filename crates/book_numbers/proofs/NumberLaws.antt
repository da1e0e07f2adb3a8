-- NumberLaws: what a text tells, byte by byte, where a number that is above the largest is kept at the largest.
use mathlib.Core.Path.{◌≡◌, refl}
use mathlib.Core.Bool.{Bool, ◌&&◌, false, true}
use mathlib.Core.List.{List, [], ◌∷◌}
use Prim.Native.Nat.{ℕ, suc, ◌+◌, ◌-◌, ◌*◌, ◌<◌, ◌≤◌, min}
use native.Mathlib.Decide.{dec_lt}
use native.Mathlib.Omega.{arith}
use borrow.Author.Tests.{leb-true}
use lib.Dec.{leb}
use lib.ListN.{drop, drop_of_length-le, get_or, length}
use lib.Seq.{drop-cons}
use Rattle.std.specs.Prelude.{Some, None}
use Rattle.book_numbers.specs.Numbers.{is_digit, told_from, value_from}

-- more digits make no number less
value_grows : (n : ℕ) (s : List ℕ) → n ≤ value_from n s
value_grows n [] = omega arith
value_grows n (b ∷ s) = omega (arith, value_grows (10 * n + (b - 48)) s)

-- a number that is above the largest may be kept at the largest before the next digit
value_kept : (most n : ℕ) (s : List ℕ) → min (value_from (min n most) s) most ≡ min (value_from n s) most
value_kept most n s = go (dec_lt most n)
  where
    go : Dec (most < n) → min (value_from (min n most) s) most ≡ min (value_from n s) most
    go (yes h) = omega (arith, value_grows n s, value_grows (min n most) s)
    go (no h) = let e : min n most ≡ n = omega arith in rw e

module _ (most n : ℕ) (s : List ℕ) (i : ℕ) (h : i < length s) where
  -- a digit
  pub told-digit : is_digit (get_or s i 0) ≡ true → told_from most n (drop i s) ≡ told_from most (min (10 * n + (get_or s i 0 - 48)) most) (drop (suc i) s)
  told-digit d = rw (drop-cons s i 0 h, d, value_kept most (10 * n + (get_or s i 0 - 48)) (drop (suc i) s))

  -- another byte
  pub told-other : is_digit (get_or s i 0) ≡ false → told_from most n (drop i s) ≡ None
  told-other d = rw (drop-cons s i 0 h, d)

-- no byte left
pub told-end : (most n : ℕ) (s : List ℕ) (i : ℕ) → length s ≤ i → n ≤ most → told_from most n (drop i s) ≡ Some n
told-end most n s i h k = let e : min n most ≡ n = omega arith in rw (drop_of_length-le s h, e)

-- a digit is at least `0`, and tells a number below ten
pub digit-range : (b : ℕ) → is_digit b ≡ true → (48 ≤ b) × (b < 58)
digit-range b d = go (leb 48 b) refl d
  where
    go : (x : Bool) → leb 48 b ≡ x → (x && leb b 57) ≡ true → (48 ≤ b) × (b < 58)
    go true e f = (leb-true 48 b e, omega (arith, leb-true b 57 f))
    go false e f = let z : ◌≡◌ {A = ℕ} 0 1 = cc in absurd (omega arith)
