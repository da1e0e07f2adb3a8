-- The first fault of all arcs: that of the whole is that of the arcs that are left, from this place on.
use mathlib.Core.Path.{◌≡◌}
use Prim.Native.Nat.{◌-◌, ◌≤◌}
use lib.ListN.{length, drop}
use Rattle.file_fields.specs.Parts.{arcs_tests, first_fault}
use Rattle.file_arcs.proofs.arcs_fault.Given as goal

abbrev pub invariant-loop : goal.invariant-loop
invariant-loop l = (l.at ≤ length l.file) × (first_fault (arcs_tests l.c.arcs l.c l.from (drop l.from l.file)) l.c ≡ first_fault (arcs_tests (l.c.arcs - l.counter) l.c l.at (drop l.at l.file)) l.c)
