use Rattle.line_comparison.proofs.TellingLaws.{answer_told}
use Rattle.line_comparison.proofs.answer_line.Goals as goal

pub returns : goal.returns
returns c = rw (← answer_told c.args.r c.args.word.now) c.told_line.ensures
