-- `word_rows::load` meets its contract: the four words one by one.
use native.Mathlib.Omega.{arith}
use Rattle.word_rows.proofs.RowLaws.{loaded}
use Rattle.word_rows.proofs.load.Goals as goal

pub returns : goal.returns
returns c = loaded c.args.w.now c.args.base c.args.i (omega arith)
