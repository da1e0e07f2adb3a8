-- `book_ranges::range_at` meets its contract: each test is one of the definition's.
use mathlib.Core.Path.{◌∙◌, ap₂, sym}
use Rattle.book_ranges.specs.Typing.{range_between}
use Rattle.book_ranges.proofs.Fronts.{a-range, no_dash, no_end, too_short}
use Rattle.book_ranges.proofs.range_at.Goals as goal

pub returns-then-text-i-lt5 : goal.returns-then-text-i-lt5
returns-then-text-i-lt5 c = sym (too_short c.args.letters.now c.args.text.now c.args.i c.if-text-i-lt5.true)

pub returns-then-text-i-ne45 : goal.returns-then-text-i-ne45
returns-then-text-i-ne45 c = sym (no_dash c.args.letters.now c.args.text.now c.args.i c.if-text-i-lt5.false c.if-text-i-ne45.true)

pub returns-then-text-i-ne93 : goal.returns-then-text-i-ne93
returns-then-text-i-ne93 c = sym (no_end c.args.letters.now c.args.text.now c.args.i c.if-text-i-lt5.false c.if-text-i-ne45.false c.if-text-i-ne93.true)

pub returns : goal.returns
returns c = c.range_between.ensures ∙ ap₂ range_between c.letter_in-low.ensures c.letter_in-high.ensures ∙ sym (a-range c.args.letters.now c.args.text.now c.args.i c.if-text-i-lt5.false c.if-text-i-ne45.false c.if-text-i-ne93.false)
