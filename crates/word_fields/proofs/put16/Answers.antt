-- `word_fields::put16` meets its contract: the digit to the base 2 ^ 16 is cleared, and v is written to it.
use native.Mathlib.Omega.{arith}
use Prim.Native.Nat.{◌+◌, ◌/◌}
use Rattle.word_fields.proofs.FrameLaws.{kept_set}
use Rattle.word_fields.proofs.FieldLaws.{put-field}
use Rattle.word_fields.proofs.put16.Goals as goal

pub returns : goal.returns
returns c = record { kept = kept_set c.args.w.now (c.args.base + c.args.k / 4) _; set = put-field c.args.w.now c.args.base c.args.k c.args.v (omega arith) (omega arith) }
