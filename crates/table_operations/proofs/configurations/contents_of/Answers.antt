-- `table_operations::configurations::contents_of` meets its contract: the mask takes the low 32 bits.
use lib.Bits.{and_mask}
use Rattle.table_operations.proofs.configurations.contents_of.Goals as goal

pub returns : goal.returns
returns c = and_mask c.args.own 32
