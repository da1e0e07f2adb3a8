-- ByTwos: the bytes of a word with ranges from one of them on: its places, and whether they are ranges, where two bytes are left, or one.
use mathlib.Core.Path.{◌∙◌, ◌≡◌}
use mathlib.Core.Bool.{◌||◌, not, true}
use mathlib.Core.List.{List, [], ◌∷◌}
use Prim.Native.Nat.{◌+◌, ◌<◌, ℕ}
use native.Mathlib.Numerals.{add-one, add-two}
use native.Mathlib.Omega.{arith}
use lib.Dec.{ltb}
use lib.ListN.{drop, drop_of_length-le, get_or, length}
use lib.Seq.{drop-cons}
use Rattle.fillings.specs.Fillings.{from_to}
use Rattle.ranges_promise.specs.RangeAnswers.{bad_ranges, ranges_of}

module _ (s : List ℕ) (i : ℕ) where
  first-left : i < length s → drop i s ≡ get_or s i 0 ∷ drop (i + 1) s
  first-left h = rw add-one (drop-cons s i 0 h)

  one_left : length s ≡ i + 1 → drop i s ≡ get_or s i 0 ∷ []
  one_left h = first-left (omega arith) ∙ rw (drop_of_length-le s {i = i + 1} (omega arith))

  two-left : i + 1 < length s → drop i s ≡ get_or s i 0 ∷ get_or s (i + 1) 0 ∷ drop (i + 2) s
  two-left h = first-left (omega arith) ∙ rw (drop-cons s (i + 1) 0 h, add-one i, add-two i)

  pub ranges-two : i + 1 < length s → ranges_of (drop i s) ≡ from_to (get_or s i 0) (get_or s (i + 1) 0) ∷ ranges_of (drop (i + 2) s)
  unfolding ranges_of
  ranges-two h = rw (two-left h)

  module _ (a : ℕ) where
    pub Bad-one : length s ≡ i + 1 → bad_ranges a (drop i s) ≡ true
    unfolding bad_ranges
    Bad-one h = rw (one_left h)

    pub Bad-two : i + 1 < length s → bad_ranges a (drop i s) ≡ (ltb (get_or s (i + 1) 0) (get_or s i 0) || (not (ltb (get_or s (i + 1) 0) a) || bad_ranges a (drop (i + 2) s)))
    unfolding bad_ranges
    Bad-two h = rw (two-left h)
