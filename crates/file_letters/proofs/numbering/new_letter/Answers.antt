-- `file_letters::numbering::new_letter` meets its contract.
use mathlib.Core.Path.{◌∙◌, sym}
use Rattle.relettering.proofs.Laws.{number-beyond, number-listed}
use Rattle.file_letters.proofs.numbering.new_letter.Goals as goal

pub returns-then-letter-new : goal.returns-then-letter-new
returns-then-letter-new c = (c.byte.ensures.0 ∙ sym (number-listed c.args.new.now c.args.letter c.if-letter-new.true), λ h. c.byte.ensures.1)

pub returns : goal.returns
returns c = (sym (number-beyond c.args.new.now c.args.letter c.if-letter-new.false), λ h. h)
