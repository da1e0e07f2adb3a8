-- `table_operations::operations::operate_at` meets its contract: the two bytes are those of the file.
use Rattle.table_operations.proofs.operations.operate_at.Goals as goal

pub returns : goal.returns
returns c = rw (← c.byte.ensures.0, ← c.byte-2.ensures.0) c.operate.ensures
