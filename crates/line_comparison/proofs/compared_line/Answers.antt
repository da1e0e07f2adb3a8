-- `line_comparison::compared_line` meets its contract: the buffer that comparing leaves has the shown word at its front.
use native.Mathlib.Omega.{arith}
use Rattle.line_comparison.proofs.ComparisonLaws.{compared, compared_short}
use Rattle.line_comparison.proofs.compared_line.Goals as goal

pub returns : goal.returns
returns c = record { writes = compared c.args.first.now c.args.second.now _ c.args.word.now c.compare-r.ensures.answer c.compare-r.ensures.shown (omega arith) (omega arith) c.answer_line.ensures; short = compared_short c.args.first.now c.args.second.now _ c.args.word.now c.compare-r.ensures.answer c.compare-r.ensures.shown (omega arith) (omega arith) (omega arith) }
