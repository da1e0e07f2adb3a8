-- `count_targets::number_letters` meets its contract. The loop's invariant: the first l letters are numbered, no word but those of the
-- targets has changed, and `none` is the number of the empty set once a letter was not met.
use Rattle.count_targets.proofs.Numbering.{Numbering}
use Rattle.count_targets.proofs.number_letters.Given as goal

abbrev pub invariant-loop-l : goal.invariant-loop-l
invariant-loop-l l = Numbering l.initial.w l.n l.met l.from l.l l.none l.w
