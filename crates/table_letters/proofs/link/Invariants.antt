-- `table_letters::link` meets its contract. The loop's invariant: the arcs of the first c configurations have joined (Linking).
use Rattle.table_letters.proofs.LinkLetters.{Linking}
use Rattle.table_letters.proofs.link.Given as goal

abbrev pub invariant-loop-c : goal.invariant-loop-c
invariant-loop-c l = Linking l.letters l.initial.w l.block l.c l.w
