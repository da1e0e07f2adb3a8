-- `count_rounds::count_rounds` meets its contract. The loop's invariant: the counts are those of words of so many letters as rounds are over.
use Rattle.word_layout.specs.Layout.{counts}
use Rattle.count_rounds.specs.Rounds.{Counted, Rounds}
use Rattle.count_rounds.proofs.count_rounds.Given as goal

abbrev pub invariant-loop : goal.invariant-loop
invariant-loop l = Rounds l.file l.c l.w l.block l.n l.kept × Counted l.file l.c.letters l.w counts l.n l.counter
