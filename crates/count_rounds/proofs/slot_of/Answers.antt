-- `count_rounds::slot_of` meets its contract.
use native.Mathlib.Omega.{arith}
use Rattle.count_rounds.proofs.Slots.{rounds-noted}
use Rattle.count_rounds.proofs.slot_of.Goals as goal

pub returns : goal.returns
returns c = record { kept = c.note_targets.ensures.kept; still = rounds-noted c.note_targets.ensures.still c.args.kept c.note_targets.ensures.before c.requires.1; noted = (omega arith, c.note_targets.ensures.noted) }
