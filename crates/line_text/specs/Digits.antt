-- Digits: numbers and bytes as text, in ASCII (document 01, `bookcompare`: decimal numbers, lower-case hexadecimal, `.` for no bytes).
use Rattle.std.specs.Prelude.{ℕ, zero, suc, ◌+◌, ◌-◌, ◌/◌, ◌%◌, cond, List, [], ◌∷◌, ◌++◌, ltb}

-- a number in decimal digits, the most significant first, in at most so many places:
-- before the last digit, n % 10, stand those of n / 10, and none where n is below ten
unfoldable pub decimal_within : ℕ → ℕ → List ℕ
decimal_within zero n = []
decimal_within (suc places) n = let front = decimal_within places (n / 10) in cond (ltb n 10) [] front ++ ((48 + n % 10) ∷ [])

-- a number in decimal digits; n has at most n + 1 of them
unfoldable pub decimal_of : ℕ → List ℕ
unfolding decimal_within
decimal_of n = decimal_within (suc n) n

-- a digit below 16: `0` to `9`, then `a` to `f`
unfoldable pub digit_of : ℕ → ℕ
digit_of d = cond (ltb d 10) (48 + d) (97 + (d - 10))

-- bytes in hexadecimal, two digits each, the high one first
unfoldable pub hex_digits : List ℕ → List ℕ
unfolding digit_of
hex_digits [] = []
hex_digits (b ∷ s) = digit_of (b / 16) ∷ digit_of (b % 16) ∷ hex_digits s

-- bytes as a field of a line: in hexadecimal, and `.` for none
unfoldable pub hex_of : List ℕ → List ℕ
unfolding hex_digits
hex_of [] = 46 ∷ []
hex_of (b ∷ s) = hex_digits (b ∷ s)
