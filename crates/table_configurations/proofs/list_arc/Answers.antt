-- `table_configurations::list_arc` meets its contract: one field is written, or there is no room and nothing is.
use borrow.Author.Tests.{le-ltb, lt-ltb}
use native.Mathlib.Omega.{arith}
use Rattle.word_fields.proofs.Laws.{kept_same, kept-wider}
use Rattle.table_configurations.proofs.list_arc.Goals as goal

pub returns-then-plain-lt2048 : goal.returns-then-plain-lt2048
returns-then-plain-lt2048 c = record { kept = kept-wider (omega arith) (omega arith) c.list_arc.ensures.kept; listed = rw (lt-ltb c.args.plain 2048 (omega arith)) c.list_arc.ensures.listed }

pub returns-else-plain-lt2048 : goal.returns-else-plain-lt2048
returns-else-plain-lt2048 c = record { kept = kept_same _ _ _; listed = λ k. rw (le-ltb c.args.plain 2048 c.if-plain-lt2048.false) }
