-- `join_parts::letters::reletter_arcs` meets its contract.
use Rattle.join_parts.proofs.InPlace.{ArcsLeft}
use Rattle.join_parts.proofs.letters.reletter_arcs.Given as goal

abbrev pub invariant-loop-i : goal.invariant-loop-i
invariant-loop-i l = ArcsLeft l.new l.at l.count l.initial.out l.from l._i l.out
