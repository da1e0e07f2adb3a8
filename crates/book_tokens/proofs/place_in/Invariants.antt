use Rattle.std.proofs.Common.{◌≤◌}
use Rattle.book_tokens.proofs.place_in.Given as goal

abbrev pub invariant-loop-i : goal.invariant-loop-i
invariant-loop-i l = (l.feeds ≤ l.i) × (l.start ≤ l.i)
