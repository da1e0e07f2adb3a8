-- Whether an arc has no fault: at each return the tests before it hold, and the one there fails or is the answer.
use mathlib.Core.Path.{◌≡◌, ◌∙◌}
use native.Mathlib.Omega.{arith}
use borrow.Author.Tests.{le-leb, lt-leb}
use lib.ListN.{length, get_or, drop}
use Rattle.file_fields.specs.Parts.{well_ops}
use Rattle.file_fields.proofs.Laws.{failed, passed, tail}
use Rattle.file_arcs.proofs.is_arc.Goals as goal
use Rattle.file_arcs.proofs.is_arc.Goals.{After-are_operations}

-- what the callee said of the part, said of the whole
operated : (c : goal.After-are_operations) → c.are_operations.result ≡ well_ops c.args.c (get_or c.args.s.now 1 0) (get_or c.args.s.now 3 0) (drop 4 c.args.s.now)
operated c = c.are_operations.ensures (get_or c.args.s.now 1 0) ∙ rw (tail c.args.s.now 4, c.byte.ensures.0)

pub returns-then-s-lt4 : goal.returns-then-s-lt4
returns-then-s-lt4 c = rw (lt-leb 4 (length c.args.s.now) (omega arith))

pub returns-then-not-are_fields : goal.returns-then-not-are_fields
returns-then-not-are_fields c = rw (le-leb 4 (length c.args.s.now) (omega arith), failed c.are_fields.ensures c.if-not-are_fields.true-raw)

pub returns-then-s-arc_size : goal.returns-then-s-arc_size
returns-then-s-arc_size c = rw (le-leb 4 (length c.args.s.now) (omega arith), passed c.are_fields.ensures c.if-not-are_fields.false-raw, ← c.arc_size.ensures.0, lt-leb _ _ c.if-s-arc_size.true)

pub returns : goal.returns
returns c = rw (le-leb 4 (length c.args.s.now) (omega arith), passed c.are_fields.ensures c.if-not-are_fields.false-raw, ← c.arc_size.ensures.0, le-leb _ _ c.if-s-arc_size.false)
    (operated c)
