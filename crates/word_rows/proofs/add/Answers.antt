-- `word_rows::add` meets its contract: one digit of one word is set.
use Rattle.word_rows.proofs.RowLaws.{added}
use Rattle.word_rows.proofs.add.Goals as goal

pub returns : goal.returns
returns c = rw (c.word_of.ensures, c.mask_of.ensures) (let whole = added c.args.w.now c.args.base c.args.i c.args.k c.requires.0 c.requires.1 in record { kept = whole.0; set = whole.1 })
