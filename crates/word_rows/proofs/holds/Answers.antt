-- `word_rows::holds` meets its contract: one digit of one word tells.
use native.Mathlib.Omega.{arith}
use Rattle.word_rows.proofs.RowLaws.{holds_row}
use Rattle.word_rows.proofs.holds.Goals as goal

pub returns : goal.returns
returns c = rw (c.word_of.ensures, c.mask_of.ensures) (holds_row c.args.w.now c.args.base c.args.i c.args.k (omega arith))
