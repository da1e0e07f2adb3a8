-- `book_ranges::place_at` meets its contract.
use mathlib.Core.Path.{◌∙◌, ap, sym}
use Rattle.book_ranges.specs.Typing.{single}
use Rattle.book_ranges.proofs.Fronts.{at_bracket, at_other}
use Rattle.book_ranges.proofs.place_at.Goals as goal

pub returns-then-text-i-eq91 : goal.returns-then-text-i-eq91
returns-then-text-i-eq91 c = c.range_at.ensures ∙ sym (at_bracket c.args.letters.now c.args.text.now c.args.i c.if-text-i-eq91.true)

pub returns-in_default : goal.returns-in_default
returns-in_default c = ap single (sym c.in_default.is ∙ c.letter_in.ensures) ∙ sym (at_other c.args.letters.now c.args.text.now c.args.i c.if-text-i-eq91.false)

pub returns : goal.returns
returns c = ap single (sym c.in-Some.is ∙ c.letter_in.ensures) ∙ sym (at_other c.args.letters.now c.args.text.now c.args.i c.if-text-i-eq91.false)
