use Rattle.std.proofs.Common.{rules, refl}
use Rattle.line_text.proofs.WritingLaws.{next}
use Rattle.line_text.proofs.Line.put.Goals as goal

pub loop-b-preserved : goal.loop-b-preserved
loop-b-preserved c = (next (λ s. s) (λ s t. refl) c.args.s.now c.loop-b.b-index c.loop-b-test.true c.loop-b.invariant.0 c.put_byte.ensures.0, search rules)
