-- The register of an operation: masking by 15 is the remainder by 16.
use lib.Bits.{and_mask}
use Rattle.file_fields.proofs.fields.operation_register.Goals as goal

pub returns : goal.returns
returns c = and_mask c.args.x 4
