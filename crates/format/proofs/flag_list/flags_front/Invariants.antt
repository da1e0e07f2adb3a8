-- How many bytes are flags: those that the loop has passed, and how many of those that are left.
use mathlib.Core.Path.{◌≡◌}
use Prim.Native.Nat.{◌+◌}
use lib.ListN.{drop}
use Rattle.file_fields.specs.Parts.{flags_front}
use Rattle.format.proofs.flag_list.flags_front.Given as goal

abbrev pub invariant-loop-i : goal.invariant-loop-i
invariant-loop-i l = flags_front l.s ≡ l.i + flags_front (drop l.i l.s)
