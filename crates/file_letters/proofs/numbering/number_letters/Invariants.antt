-- `file_letters::numbering::number_letters` meets its contract.
use mathlib.Core.Path.{◌≡◌}
use lib.ListN.{length, take}
use Rattle.automata.specs.Words.{places}
use Rattle.file_letters.proofs.numbering.number_letters.Given as goal

abbrev pub invariant-loop-i : goal.invariant-loop-i
invariant-loop-i l = (length l.new ≡ 64) × (take l.i l.new ≡ places l.all (take l.i l.own))
