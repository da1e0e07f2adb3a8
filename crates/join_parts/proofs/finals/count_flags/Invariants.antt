-- `join_parts::finals::count_flags` meets its contract.
use mathlib.Core.Path.{◌≡◌}
use Prim.Native.Nat.{◌+◌, ◌-◌, ◌≤◌}
use lib.ListN.{length}
use Rattle.join_parts.proofs.FinalFlags.{final_from}
use Rattle.join_parts.proofs.finals.count_flags.Given as goal

abbrev pub invariant-loop-i : goal.invariant-loop-i
invariant-loop-i l = (l.n ≤ l.i) × (l.n + length (final_from l.flags l.i) ≡ length (final_from l.flags 0))
