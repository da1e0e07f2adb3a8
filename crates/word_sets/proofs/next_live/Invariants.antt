-- `word_sets::next_live` meets its contract. The loop's invariant: no number from c to before `at` is a member, and `at` is not before word q.
use Prim.Native.Nat.{◌*◌, ◌≤◌}
use Rattle.word_sets.proofs.NextLive.{Scanned}
use Rattle.word_sets.proofs.next_live.Given as goal

abbrev pub invariant-loop-q : goal.invariant-loop-q
invariant-loop-q l = (64 * l.q ≤ l.at) × Scanned l.fn.set l.c l.at
