-- `table_file_steps::step_file` meets its contract. The loop's invariant: the live configurations below c have been visited (Stepping of
-- crate table_sets). The measure is how far c is from 256.
use Prim.Native.Nat.{◌-◌}
use Rattle.table_file_steps.specs.FileSteps.{FromFile}
use Rattle.table_sets.proofs.Laws.{Stepping}
use Rattle.table_file_steps.proofs.step_file.Given as goal

abbrev pub invariant-loop-c : goal.invariant-loop-c
invariant-loop-c l = Stepping (FromFile l.file l.counts l.initial.w l.block) l.initial.w l.acc l.set l.c l.w l.met

abbrev pub decreases-loop-c : goal.decreases-loop-c
decreases-loop-c l = 256 - l.c
