use Rattle.std.proofs.Common.{arith, rules}
use Rattle.line_text.specs.Digits.{hex_digits}
use Rattle.line_text.proofs.DigitLaws.{hex_append}
use Rattle.line_text.proofs.WritingLaws.{next, nothing}
use Rattle.line_text.proofs.Line.hex_bytes.Goals as goal

pub loop-b-preserved : goal.loop-b-preserved
loop-b-preserved c = (next hex_digits hex_append c.args.s.now c.loop-b.b-index c.loop-b-test.true c.loop-b.invariant.0 c.hex_byte.ensures.0, search rules)

pub loop-b-init : goal.loop-b-init
unfolding hex_digits
loop-b-init c = (nothing _ _ _ (omega arith), search rules)
