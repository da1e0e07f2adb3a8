-- `table_live::letters::step_letters` meets its contract: it is a step over the listed arcs, or by the file.
use native.Mathlib.Omega.{arith}
use Rattle.table_live.proofs.letters.step_letters.Goals as goal

pub step-requires : goal.step-requires
step-requires c = (c.requires.0.room, c.requires.0.listed c.if-block-le2048.true)

pub returns-then-block-le2048 : goal.returns-then-block-le2048
returns-then-block-le2048 c = record { kept = c.step.ensures.kept; set = λ arcs out. c.step.ensures.set _ arcs out.told c.requires.0.walkable.letters }

pub step_file-requires : goal.step_file-requires
step_file-requires c = record { walkable = (c.requires.0.walkable, (c.requires.0.indexed, c.requires.0.linked)); map_end_le_acc = (c.requires.1, (c.requires.0.room, c.requires.0.findable)) }

pub returns : goal.returns
returns c = record { kept = c.step_file.ensures.kept; set = λ arcs out. c.step_file.ensures.set _ arcs (out.filed (omega (arith, c.if-block-le2048.false))) c.requires.0.walkable.letters }
