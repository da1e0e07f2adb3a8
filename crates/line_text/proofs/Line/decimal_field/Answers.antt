use Rattle.std.proofs.Common.{rules}
use Rattle.line_text.proofs.WritingLaws.{then}
use Rattle.line_text.proofs.Line.decimal_field.Goals as goal

pub returns : goal.returns
returns c = (then c.put_byte.ensures.0 c.decimal.ensures.0, search rules)
