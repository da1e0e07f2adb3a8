use Rattle.std.proofs.Common.{arith}
use Rattle.line_text.proofs.DigitLaws.{hex_none, hex_some}
use Rattle.line_text.proofs.Line.hex.Goals as goal

pub returns-then-is_empty : goal.returns-then-is_empty
returns-then-is_empty c = rw (hex_none c.args.s.now (grind arith)) c.put_byte.ensures

pub returns : goal.returns
returns c = rw (hex_some c.args.s.now (grind arith)) c.hex_bytes.ensures
