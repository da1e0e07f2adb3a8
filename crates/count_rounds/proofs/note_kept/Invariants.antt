-- `count_rounds::note_kept` meets its contract. The loop's invariant: the targets of the first i sets are noted.
use Rattle.count_rounds.proofs.Slots.{Noting}
use Rattle.count_rounds.proofs.note_kept.Given as goal

abbrev pub invariant-loop-i : goal.invariant-loop-i
invariant-loop-i l = Noting l.file l.c l.w l.block l.n l.i
