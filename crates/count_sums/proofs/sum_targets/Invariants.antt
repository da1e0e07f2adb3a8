-- `count_sums::sum_targets` meets its contract. The loop's invariant: the sum so far is that of the letters passed.
use Rattle.std.proofs.Common.{◌≡◌}
use Rattle.count_sums.specs.Sums.{targets_sum}
use Rattle.count_sums.proofs.sum_targets.Given as goal

abbrev pub invariant-loop-l : goal.invariant-loop-l
invariant-loop-l l = l.sum ≡ targets_sum l.w l.l l.from
