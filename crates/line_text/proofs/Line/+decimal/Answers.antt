use Rattle.std.proofs.Common.{rules}
use Rattle.line_text.proofs.DigitLaws.{decimal_more, decimal_one}
use Rattle.line_text.proofs.WritingLaws.{then}
use Rattle.line_text.proofs.Line.+decimal.Goals as goal

pub returns-then-n-lt10 : goal.returns-then-n-lt10
returns-then-n-lt10 t c = rw (decimal_one _ c.if-n-lt10.true) c.put_byte.ensures

pub returns : goal.returns
returns t c = (rw (decimal_more _ c.if-n-lt10.false) (then c.decimal.ensures.0 c.put_byte-2.ensures.0), search rules)
