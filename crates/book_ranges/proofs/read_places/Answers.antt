use mathlib.Core.Path.{◌≡◌, ◌∙◌, ap, sym}
use Rattle.std.specs.Prelude.{Err}
use Rattle.book_ranges.specs.declared.NoPlace.TheVariants.{Foreign, NoRange}
use Rattle.book_ranges.proofs.Turns.{ends_foreign, ends-text, ends-unread, here, Reading-more, Reading-start}
use Rattle.book_ranges.proofs.read_places.Goals as goal
use Rattle.book_ranges.proofs.read_places.Goals.{In-Err-Foreign, In-Err-NoRange}

pub loop-i-init : goal.loop-i-init
loop-i-init c = Reading-start c.args.letters.now c.args.text.now c.args.places.now

pub loop-i-preserved : goal.loop-i-preserved
loop-i-preserved c = Reading-more c.loop-i.invariant c.requires.1.1 c.loop-i-test.true (sym c.place_at.ensures ∙ c.in-Ok.is)

-- ---- the end
foreign : (c : goal.In-Err-Foreign) → here c.args.letters.now c.args.text.now c.loop-i.i ≡ Err Foreign
foreign c = sym c.place_at.ensures ∙ c.in-Err-Foreign.is ∙ ap Err c.in-Err-Foreign.field-0-is

no_range : (c : goal.In-Err-NoRange) → here c.args.letters.now c.args.text.now c.loop-i.i ≡ Err NoRange
no_range c = sym c.place_at.ensures ∙ c.in-Err-NoRange.is ∙ ap Err c.in-Err-NoRange.field-0-is

pub returns-in-Err-Foreign-clause-answer : goal.returns-in-Err-Foreign-clause-answer
returns-in-Err-Foreign-clause-answer c = (ends_foreign c.loop-i.invariant c.requires.1.1 c.loop-i-test.true (foreign c)).0

pub returns-in-Err-Foreign-clause-written : goal.returns-in-Err-Foreign-clause-written
returns-in-Err-Foreign-clause-written c = (ends_foreign c.loop-i.invariant c.requires.1.1 c.loop-i-test.true (foreign c)).1

pub returns-in-Err-NoRange-clause-answer : goal.returns-in-Err-NoRange-clause-answer
returns-in-Err-NoRange-clause-answer c = (ends-unread c.loop-i.invariant c.requires.1.1 c.loop-i-test.true (no_range c)).0

pub returns-in-Err-NoRange-clause-written : goal.returns-in-Err-NoRange-clause-written
returns-in-Err-NoRange-clause-written c = (ends-unread c.loop-i.invariant c.requires.1.1 c.loop-i-test.true (no_range c)).1

pub returns-clause-answer : goal.returns-clause-answer
returns-clause-answer c = (ends-text c.loop-i.invariant c.requires.1.1 c.loop-i-test.false).0

pub returns-clause-written : goal.returns-clause-written
returns-clause-written c = (ends-text c.loop-i.invariant c.requires.1.1 c.loop-i-test.false).1
