use Rattle.std.proofs.Common.{rules}
use Rattle.line_text.proofs.WritingLaws.{then}
use Rattle.line_text.proofs.Line.hex_field.Goals as goal

pub returns : goal.returns
returns c = (then c.put_byte.ensures.0 c.hex.ensures.0, search rules)
