-- `word_sets::places::mask_of` meets its contract: 1 shifted by the digit is a power of 2.
use mathlib.Core.Path.{◌∙◌, ap}
use Prim.Native.Nat.{ℕ, ◌^◌}
use native.Mathlib.Omega.{arith}
use Rattle.word_sets.proofs.Bits.{one_shl}
use Rattle.word_sets.proofs.places.mask_of.Goals as goal

pub overflow_shl-result : goal.overflow_shl-result
overflow_shl-result c = omega (arith, c.digit_of.ensures)

pub returns : goal.returns
returns c = one_shl c.digit_of.result (overflow_shl-result c) ∙ ap (λ (d : ℕ). 2 ^ d) c.digit_of.ensures
