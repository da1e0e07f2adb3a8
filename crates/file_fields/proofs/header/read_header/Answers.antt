-- The header: at each return the tests before it hold, and the one there fails or all hold.
use mathlib.Core.Path.{ap, ◌∙◌}
use mathlib.Core.Bool.{true}
use native.Mathlib.Omega.{arith}
use lib.ListN.{length}
use borrow.Author.Tests.{le-leb, lt-leb, eq-eqb, ne_eqb}
use Rattle.std.specs.Prelude.{Ok}
use Rattle.file_fields.specs.declared.Counts.{Counts}
use Rattle.file_fields.specs.Parts.{all_hold, count_tests, counts_of, first_fault}
use Rattle.file_fields.proofs.TestLaws.{each_holds, failed, Hold-valid, itself, passed}
use Rattle.file_fields.proofs.header.read_header.Goals as goal

pub returns-then-file-lt12 : goal.returns-then-file-lt12
unfolding first_fault
returns-then-file-lt12 c = rw (lt-leb 12 (length c.args.file.now) (omega arith), c.at.ensures) (itself _)

pub returns-then-not-has_mark : goal.returns-then-not-has_mark
unfolding first_fault
returns-then-not-has_mark c = rw (le-leb 12 (length c.args.file.now) (omega arith), failed c.has_mark.ensures c.if-not-has_mark.true-raw, c.at-then-not-has_mark.ensures) (itself _)

pub returns-then-double-ne1 : goal.returns-then-double-ne1
unfolding first_fault
returns-then-double-ne1 c = rw (le-leb 12 (length c.args.file.now) (omega arith), passed c.has_mark.ensures c.if-not-has_mark.false-raw, ← c.double.ensures.0, ne_eqb c.double.result 1 c.if-double-ne1.true, c.at-then-double-ne1.ensures) (itself _)

pub returns-then-not-in_range : goal.returns-then-not-in_range
unfolding first_fault
returns-then-not-in_range c = rw (
  le-leb 12 (length c.args.file.now) (omega arith),
  passed c.has_mark.ensures c.if-not-has_mark.false-raw,
  ← c.double.ensures.0,
  eq-eqb c.double.result 1 c.if-double-ne1.false,
)
    (c.count_fault.ensures ∙ ap (λ (d : Counts). first_fault (count_tests d) d) c.read_counts-c.ensures)

pub returns : goal.returns
unfolding first_fault
returns c = rw (
  le-leb 12 (length c.args.file.now) (omega arith),
  passed c.has_mark.ensures c.if-not-has_mark.false-raw,
  ← c.double.ensures.0,
  eq-eqb c.double.result 1 c.if-double-ne1.false,
  Hold-valid (count_tests (counts_of c.args.file.now)) (counts_of c.args.file.now) (each_holds true (count_tests (counts_of c.args.file.now)) (passed (c.in_range.ensures ∙ ap (λ (e : Counts). all_hold true (count_tests e)) c.read_counts-c.ensures) c.if-not-in_range.false-raw)).1,
)
    (ap Ok c.read_counts-c.ensures)
