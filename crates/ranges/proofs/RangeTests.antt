-- RangeTests: whether bytes are ranges: what one turn of the loop decides of those that are left, and its end.
use Rattle.std.proofs.Common.{◌≡◌, ◌-◌, ◌<◌, ◌≤◌, true, not, List, [], ◌∷◌, ℕ, arith, drop, get_or, length, nat_eq, refl, take}
use borrow.Author.Tests.{le-ltb, lt-ltb}
use Rattle.std.proofs.lemmas.List.{take_all}
use Rattle.ranges_promise.specs.RangeAnswers.{bad_ranges}

-- two bytes are left, and low is above high
pub low-above : (a : ℕ) (s : List ℕ) → 2 ≤ length s → get_or s 1 0 < get_or s 0 0 → bad_ranges a s ≡ true
unfolding bad_ranges
low-above a [] h above = absurd (omega arith)
low-above a (low ∷ []) h above = absurd (omega arith)
low-above a (low ∷ high ∷ s) h above = rw (lt-ltb high low above)

-- high is no letter
pub no_letter : (a : ℕ) (s : List ℕ) → 2 ≤ length s → get_or s 0 0 ≤ get_or s 1 0 → a ≤ get_or s 1 0 → bad_ranges a s ≡ true
unfolding bad_ranges
no_letter a [] h below none = absurd (omega arith)
no_letter a (low ∷ []) h below none = absurd (omega arith)
no_letter a (low ∷ high ∷ s) h below none = rw (le-ltb high low below, le-ltb high a none)

-- they are a range
pub range_passed : (a : ℕ) (s : List ℕ) → 2 ≤ length s → get_or s 0 0 ≤ get_or s 1 0 → get_or s 1 0 < a → bad_ranges a s ≡ bad_ranges a (take (length s - 2) (drop 2 s))
unfolding bad_ranges
range_passed a [] h below letter = absurd (omega arith)
range_passed a (low ∷ []) h below letter = absurd (omega arith)
range_passed a (low ∷ high ∷ s) h below letter = rw (le-ltb high low below, lt-ltb high a letter, take_all (length (low ∷ high ∷ s) - 2) s (omega arith))

-- fewer are left
pub passed_all : (a : ℕ) (s : List ℕ) → length s < 2 → nat_eq (length s) 0 ≡ not (bad_ranges a s)
unfolding bad_ranges
passed_all a [] h = refl
passed_all a (low ∷ []) h = refl
passed_all a (low ∷ high ∷ s) h = absurd (omega arith)
