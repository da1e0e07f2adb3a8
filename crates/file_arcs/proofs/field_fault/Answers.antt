-- The first field out of its range: at each return the tests before it hold, and the one there fails or all hold.
use mathlib.Core.Path.{◌≡◌}
use mathlib.Core.Bool.{true, ◌&&◌, ◌||◌}
use borrow.Author.Tests.{not-false, not-true}
use lib.Dec.{eqb, leb, ltb}
use lib.ListN.{get_or}
use Rattle.file_fields.specs.Parts.{first_fault}
use Rattle.file_fields.proofs.Laws.{itself}
use Rattle.file_arcs.proofs.field_fault.Goals as goal
use Rattle.file_arcs.proofs.field_fault.Goals.{Else-not-from-states, Else-not-letter-letters, Else-not-to-states}

-- ---- the tests that hold where the next is looked at
from-within : (c : goal.Else-not-from-states) → ltb (get_or c.args.s.now 0 0) c.args.c.states ≡ true
from-within c = rw (← c.byte-from.ensures.0) (not-false (ltb c.byte-from.result c.args.c.states) c.if-not-from-states.false-raw)

letter-within : (c : goal.Else-not-letter-letters) → (eqb (get_or c.args.s.now 1 0) 255 || ltb (get_or c.args.s.now 1 0) c.args.c.letters) ≡ true
letter-within c = rw (← c.byte-letter.ensures.0) (not-false (eqb c.byte-letter.result 255 || ltb c.byte-letter.result c.args.c.letters) c.if-not-letter-letters.false-raw)

to-within : (c : goal.Else-not-to-states) → ltb (get_or c.args.s.now 2 0) c.args.c.states ≡ true
to-within c = rw (← c.byte-to.ensures.0) (not-false (ltb c.byte-to.result c.args.c.states) c.if-not-to-states.false-raw)

-- ---- the returns
pub returns-then-not-from-states : goal.returns-then-not-from-states
unfolding first_fault
returns-then-not-from-states c = rw (← c.byte-from.ensures.0, not-true (ltb c.byte-from.result c.args.c.states) c.if-not-from-states.true-raw, c.at.ensures) (itself _)

pub returns-then-not-letter-letters : goal.returns-then-not-letter-letters
unfolding first_fault
returns-then-not-letter-letters c = rw (from-within (goal.at.returns-then-not-letter-letters c).Else-not-from-states, ← c.byte-letter.ensures.0, not-true (eqb c.byte-letter.result 255 || ltb c.byte-letter.result c.args.c.letters) c.if-not-letter-letters.true-raw, c.at-then-not-letter-letters.ensures) (itself _)

pub returns-then-not-to-states : goal.returns-then-not-to-states
unfolding first_fault
returns-then-not-to-states c = rw (from-within (goal.at.returns-then-not-to-states c).Else-not-from-states, letter-within (goal.at.returns-then-not-to-states c).Else-not-letter-letters, ← c.byte-to.ensures.0, not-true (ltb c.byte-to.result c.args.c.states) c.if-not-to-states.true-raw, c.at-then-not-to-states.ensures) (itself _)

pub returns-then-not-operations : goal.returns-then-not-operations
unfolding first_fault
returns-then-not-operations c = rw (from-within (goal.at.returns-then-not-operations c).Else-not-from-states, letter-within (goal.at.returns-then-not-operations c).Else-not-letter-letters, to-within (goal.at.returns-then-not-operations c).Else-not-to-states, ← c.byte-operations.ensures.0, not-true (leb 1 c.byte-operations.result && leb c.byte-operations.result 8) c.if-not-operations.true-raw, c.at-then-not-operations.ensures) (itself _)

pub returns : goal.returns
unfolding first_fault
returns c = rw (from-within (goal.at.returns c).Else-not-from-states, letter-within (goal.at.returns c).Else-not-letter-letters, to-within (goal.at.returns c).Else-not-to-states, ← c.byte-operations.ensures.0, not-false (leb 1 c.byte-operations.result && leb c.byte-operations.result 8) c.if-not-operations.false-raw)
