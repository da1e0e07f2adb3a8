-- `join_parts::answer::decide` meets its contract: each way out is a case of the definition.
use mathlib.Core.Path.{◌∙◌, sym}
use borrow.Author.Tests.{le-ltb, lt-ltb}
use Rattle.join_parts.specs.Joining.{decided}
use Rattle.join_parts.proofs.answer.decide.Goals as goal

pub returns-then-is_beyond : goal.returns-then-is_beyond
unfolding decided
returns-then-is_beyond c = rw (sym c.is_beyond.ensures ∙ c.if-is_beyond.true, c.of_call.ensures)

pub returns-then-space-size : goal.returns-then-space-size
unfolding decided
returns-then-space-size c = rw (sym c.is_beyond.ensures ∙ c.if-is_beyond.false, lt-ltb c.args.space c.args.size c.if-space-size.true, c.of_call-then-space-size.ensures)

pub returns : goal.returns
unfolding decided
returns c = rw (sym c.is_beyond.ensures ∙ c.if-is_beyond.false, le-ltb c.args.space c.args.size c.if-space-size.false)
