-- `word_sets::places::without_lowest` meets its contract: one less has another digit in the place of the lowest digit 1 and below it alone.
use mathlib.Core.Path.{◌∙◌, subst}
use Prim.Native.Nat.{ℕ, zero, suc, ◌<◌, ◌-◌}
use native.Mathlib.Omega.{arith}
use lib.Dec.{T}
use lib.Bits.{and_le_r}
use Rattle.word_sets.specs.Sets.{bit}
use Rattle.word_sets.proofs.Bits.{bit-and, bit-zero, Without-lowest}
use Rattle.word_sets.proofs.places.without_lowest.Goals as goal

-- a word with a digit 1 is not 0
not-zero : (x k : ℕ) → T (bit x k) → 0 < x
not-zero zero k t = absurd (subst T (bit-zero k) t)
not-zero (suc x) k t = omega arith

pub overflow_sub-result : goal.overflow_sub-result
overflow_sub-result c = let h = not-zero c.args.x c.args.k c.requires.0 in omega arith

pub returns : goal.returns
returns c = let h = not-zero c.args.x c.args.k c.requires.0 in record { less = omega (arith, and_le_r c.args.x (c.args.x - 1)); digits = λ j. bit-and c.args.x (c.args.x - 1) j ∙ Without-lowest c.args.k c.args.x c.requires.1 c.requires.0 j }
