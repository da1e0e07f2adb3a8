-- `file_letters::joining::join_lists` meets its contract: the array has the joined list of the bytes taken so far.
use mathlib.Core.Path.{◌≡◌}
use lib.ListN.{drop, length, take}
use Rattle.relettering.specs.Relettering.{joined_letters}
use Rattle.file_letters.proofs.joining.join_lists.Given as goal

abbrev pub invariant-loop-i : goal.invariant-loop-i
invariant-loop-i l = (length l.letters ≡ 64) × (l.count ≡ length (joined_letters l.first (drop l.i l.second))) × (take l.count l.letters ≡ joined_letters l.first (drop l.i l.second))
