-- How many bytes ascend strictly: those before the last that the loop has passed, and how many from that one on.
use mathlib.Core.Path.{◌≡◌}
use Prim.Native.Nat.{◌+◌, ◌-◌, ◌≤◌}
use lib.ListN.{length, drop}
use Rattle.file_fields.specs.Parts.{ascending_front}
use Rattle.format.proofs.letter_list.ascending_front.Given as goal

abbrev pub invariant-loop-i : goal.invariant-loop-i
invariant-loop-i l = (l.i - 1 ≤ length l.s) × (ascending_front l.s ≡ l.i - 1 + ascending_front (drop (l.i - 1) l.s))
