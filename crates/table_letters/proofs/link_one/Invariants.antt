-- `table_letters::link_one` meets its contract. The loop's invariant: the arcs from `from` to before k have joined (LinkingOne).
use Rattle.table_letters.proofs.LinkLetters.{LinkingOne}
use Rattle.table_letters.proofs.link_one.Given as goal

abbrev pub invariant-loop-k : goal.invariant-loop-k
invariant-loop-k l = LinkingOne l.letters l.initial.w l.block l.from l.to l.w l.k
