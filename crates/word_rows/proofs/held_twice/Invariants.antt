-- `word_rows::held_twice` meets its contract. The loop's invariant: what one of the rows below i holds is in `once`, what two of them
-- hold is in `twice`.
use Rattle.word_rows.proofs.HeldTwice.{Gathered}
use Rattle.word_rows.proofs.held_twice.Given as goal

abbrev pub invariant-loop-i : goal.invariant-loop-i
invariant-loop-i l = Gathered l.w l.base l.i l.once l.twice
