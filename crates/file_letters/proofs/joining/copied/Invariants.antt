-- `file_letters::joining::copied` meets its contract.
use mathlib.Core.Path.{◌≡◌}
use Prim.Native.Nat.{◌-◌, ◌≤◌}
use lib.ListN.{length, take}
use Rattle.file_letters.proofs.joining.copied.Given as goal

abbrev pub invariant-loop-i : goal.invariant-loop-i
invariant-loop-i l = (length l.copy ≡ 64) × (take l.i l.copy ≡ take l.i l.list)
