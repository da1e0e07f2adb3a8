-- `count_sums::all_words` meets its contract. The loop's invariant: the number so far is the power of the letters passed.
use Rattle.std.proofs.Common.{◌≡◌, ◌^◌}
use Rattle.count_sums.proofs.all_words.Given as goal

abbrev pub invariant-loop : goal.invariant-loop
invariant-loop l = l.total ≡ l.a ^ l.counter
