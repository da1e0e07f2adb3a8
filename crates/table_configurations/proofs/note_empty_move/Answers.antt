-- `table_configurations::note_empty_move` meets its contract: row c is written with the target, or nothing is.
use borrow.Author.Tests.{eq-eqb, ne_eqb}
use native.Mathlib.Omega.{arith}
use mathlib.Core.Path.{◌∙◌}
use Rattle.table_configurations.proofs.FieldLists.{row-joined}
use Rattle.word_fields.proofs.Laws.{kept_same, kept-wider}
use Rattle.table_configurations.proofs.note_empty_move.Goals as goal

pub returns-then-letter-eq255 : goal.returns-then-letter-eq255
returns-then-letter-eq255 c = record { kept = kept-wider (omega arith) (omega arith) c.store.ensures.kept; noted = rw (eq-eqb c.args.letter 255 c.if-letter-eq255.true) (row-joined c.args.base c.args.c c.args.target c.store.ensures.kept c.store.ensures.set (λ j. c.«with».ensures j ∙ rw c.load.ensures)) }

pub returns-else-letter-eq255 : goal.returns-else-letter-eq255
returns-else-letter-eq255 c = record { kept = kept_same _ _ _; noted = λ i j. rw (ne_eqb c.args.letter 255 c.if-letter-eq255.false) }
