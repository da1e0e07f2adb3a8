-- `file_letters::agreeing::same_letters` meets its contract.
use mathlib.Core.Path.{sym, ◌∙◌}
use borrow.Author.Tests.{ne_eqb}
use Rattle.file_letters.proofs.LetterListLaws.{all_alike, other_lengths}
use Rattle.file_letters.proofs.agreeing.same_letters.Goals as goal

pub returns-then-left-right : goal.returns-then-left-right
returns-then-left-right c = c.pairs_agree.ensures ∙ all_alike c.args.left.now c.args.right.now c.if-left-right.true

pub returns-else-left-right : goal.returns-else-left-right
returns-else-left-right c = ne_eqb _ _ c.if-left-right.false ∙ sym (other_lengths c.args.left.now c.args.right.now c.if-left-right.false)
