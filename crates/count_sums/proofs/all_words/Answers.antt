use Rattle.std.proofs.Common.{arith}
use Rattle.count_sums.proofs.Powers.{power_over}
use Rattle.count_sums.proofs.all_words.Goals as goal

pub returns-in_err-total : goal.returns-in_err-total
returns-in_err-total c = rw c.from_residual.ensures (power_over _ c.args.a c.loop.counter _ (omega (arith, c.in_err-total.ensures)) c.loop.invariant c.loop-test.true)
