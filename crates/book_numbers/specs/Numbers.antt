-- Numbers: the number that a text tells in decimal digits.
use Rattle.std.specs.Prelude.{Bool, ◌&&◌, cond, true, List, [], ◌∷◌, ℕ, ◌+◌, ◌-◌, ◌*◌, min, leb, ltb, length, Option, Some, None}

-- a digit: `0` to `9`
abbrev pub is_digit : ℕ → Bool
is_digit b = leb 48 b && leb b 57

-- is each byte a digit?
abbrev pub all_digits : List ℕ → Bool
all_digits [] = true
all_digits (b ∷ s) = is_digit b && all_digits s

-- the number of these digits behind those of n, the most significant first
abbrev pub value_from : ℕ → List ℕ → ℕ
value_from n [] = n
value_from n (b ∷ s) = value_from (10 * n + (b - 48)) s

-- what bytes behind the digits of n tell: nothing where one is no digit; else the number, or `most` where it is above that
abbrev pub told_from : (most n : ℕ) → List ℕ → Option ℕ
told_from most n s = cond (all_digits s) (Some (min (value_from n s) most)) None

-- what a text tells: nothing where it is empty; at most the largest number of 64 bits
unfoldable pub number_in : List ℕ → Option ℕ
number_in s = cond (ltb 0 (length s)) (told_from 18446744073709551615 0 s) None
