-- `table_live::step_in_file` meets its contract: by the set of the letter among those that a step by the file leaves.
use native.Mathlib.Omega.{arith}
use Rattle.table_live.proofs.step_in_file.Goals as goal

pub step_file-met-requires : goal.step_file-met-requires
step_file-met-requires c = record { walkable = (c.requires.1.0.walkable, (c.requires.1.0.indexed, c.requires.1.0.linked)); map_end_le_acc = (omega arith, (c.requires.1.0.room, c.requires.1.0.findable)) }

pub returns : goal.returns
returns c = record { kept = c.step_file-met.ensures.kept; set = λ arcs out within h. rw c.set_of.ensures (c.step_file-met.ensures.set _ arcs (out.filed c.requires.1.1) c.requires.1.0.walkable.letters within c.args.l h) }
