use Rattle.line_comparison.proofs.TellingLaws.{case_told}
use Rattle.line_comparison.proofs.case_line.Goals as goal

pub returns : goal.returns
returns c = rw (← case_told c.args.r c.args.word.now) c.told_line.ensures
