-- How many letters are listed once: those that the loop has passed, and how many of those that are left.
use mathlib.Core.Path.{◌≡◌}
use Prim.Native.Nat.{◌+◌}
use lib.ListN.{drop}
use Rattle.file_fields.specs.Parts.{unlike_front}
use Rattle.format.proofs.letter_list.unlike_front.Given as goal

abbrev pub invariant-loop-i : goal.invariant-loop-i
invariant-loop-i l = unlike_front l.s ≡ l.i + unlike_front (drop l.i l.s)
