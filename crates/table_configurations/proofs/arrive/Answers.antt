-- `table_configurations::arrive` meets its contract: the target state stands above the registers.
use Rattle.table_configurations.proofs.arrive.Goals as goal

pub returns : goal.returns
returns c = rw (← c.byte-2.ensures.0, ← c.byte.ensures.0, ← c.configuration-key.ensures) (record { kept = c.meet.ensures.kept; safe = c.meet.ensures.safe; met = c.meet.ensures.met })
