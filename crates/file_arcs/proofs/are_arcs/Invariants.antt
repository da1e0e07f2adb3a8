-- Whether all arcs have no fault: the whole have none just if the arcs that are left, from this place on, have none.
use mathlib.Core.Path.{◌≡◌}
use mathlib.Core.Bool.{true}
use Prim.Native.Nat.{◌-◌, ◌≤◌}
use lib.ListN.{length, drop}
use Rattle.file_fields.specs.Parts.{all_hold, arcs_tests}
use Rattle.file_arcs.proofs.are_arcs.Given as goal

abbrev pub invariant-loop : goal.invariant-loop
invariant-loop l = (l.at ≤ length l.file) × (all_hold true (arcs_tests l.c.arcs l.c l.from (drop l.from l.file)) ≡ all_hold true (arcs_tests (l.c.arcs - l.counter) l.c l.at (drop l.at l.file)))
