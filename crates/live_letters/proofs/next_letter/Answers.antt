-- `live_letters::next_letter` meets its contract: the next letter, the next one that is met, or none.
use native.Mathlib.Omega.{arith}
use lib.Count.{trailing_le}
use Prim.Native.Nat.{◌+◌, ◌/◌, ◌^◌}
use Rattle.live_letters.proofs.NextLetters.{met-behind, none-behind, one-behind}
use Rattle.live_letters.proofs.next_letter.Goals as goal

pub returns-then-not-dead : goal.returns-then-not-dead
returns-then-not-dead c = one-behind _ _ _

pub overflow_cast-result : goal.overflow_cast-result
overflow_cast-result c = omega (arith, trailing_le 64 (c.args.met / 2 ^ (c.args.l + 1)))

pub overflow_add-result : goal.overflow_add-result
overflow_add-result c = omega (arith, trailing_le 64 (c.args.met / 2 ^ (c.args.l + 1)), c.requires)

pub returns-then-rest-ne0 : goal.returns-then-rest-ne0
returns-then-rest-ne0 c = met-behind _ _ _ c.if-not-dead.false-raw (omega (arith, c.ranges.met)) c.if-rest-ne0.true

pub returns-else-rest-ne0 : goal.returns-else-rest-ne0
returns-else-rest-ne0 c = none-behind _ _ _ _ c.if-not-dead.false-raw c.requires.0 (λ _. c.if-rest-ne0.false)

pub returns-else-next-end : goal.returns-else-next-end
returns-else-next-end c = none-behind _ _ _ _ c.if-not-dead.false-raw c.requires.0 (λ h. absurd (omega (arith, c.if-next-end.false)))
