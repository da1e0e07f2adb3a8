use Rattle.std.proofs.Common.{rules}
use Rattle.line_text.specs.Digits.{hex_digits}
use Rattle.line_text.proofs.WritingLaws.{then}
use Rattle.line_text.proofs.Line.hex_byte.Goals as goal

pub returns : goal.returns
unfolding hex_digits
returns c = (rw (← c.digit-2.ensures, ← c.digit.ensures) (then c.put_byte.ensures.0 c.put_byte-2.ensures.0), search rules)
