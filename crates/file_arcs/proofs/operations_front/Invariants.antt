-- How many of p pairs of bytes are operations: those that the loop has passed, and how many of those that are left.
use mathlib.Core.Path.{◌≡◌}
use Prim.Native.Nat.{ℕ, ◌+◌, ◌-◌, ◌*◌}
use lib.ListN.{drop}
use Rattle.file_fields.specs.Parts.{ops_front}
use Rattle.file_arcs.proofs.operations_front.Given as goal

abbrev pub invariant-loop-i : goal.invariant-loop-i
invariant-loop-i l = (letter : ℕ) → ops_front l.c letter l.p l.s ≡ l.i + ops_front l.c letter (l.p - l.i) (drop (2 * l.i) l.s)
