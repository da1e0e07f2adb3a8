-- `table_explore::walk::note_start` meets its contract: one field is written, or nothing is.
use borrow.Author.Tests.{le-leb, lt-leb}
use native.Mathlib.Omega.{arith}
use Rattle.word_fields.proofs.Laws.{kept_same, kept-wider}
use Rattle.table_explore.proofs.walk.note_start.Goals as goal

pub returns-then-plain-le2048 : goal.returns-then-plain-le2048
returns-then-plain-le2048 c = record { kept = kept-wider (omega arith) (omega arith) c.start_arcs.ensures.kept; noted = rw (le-leb c.args.plain 2048 (omega arith)) c.start_arcs.ensures.starts }

pub returns-else-plain-le2048 : goal.returns-else-plain-le2048
returns-else-plain-le2048 c = record { kept = kept_same _ _ _; noted = λ s. rw (lt-leb c.args.plain 2048 (omega arith)) }
