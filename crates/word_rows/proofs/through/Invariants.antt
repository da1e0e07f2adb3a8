-- `word_rows::through` meets its contract. The loop's invariant: the rows below i have been taken through k, the others are as they were.
use Rattle.word_rows.specs.Rows.{related}
use Rattle.word_rows.proofs.Warshall.{via}
use Rattle.word_rows.proofs.ThroughRows.{Passed}
use Rattle.word_rows.proofs.through.Given as goal

abbrev pub invariant-loop-i : goal.invariant-loop-i
invariant-loop-i l = Passed l.base l.n l.i (via (related l.initial.w l.base) l.k) l.initial.w l.w
