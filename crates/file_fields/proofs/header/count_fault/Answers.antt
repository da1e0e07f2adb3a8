-- The first count out of its range: at each return the tests before it hold, and the one there fails or all hold.
use borrow.Author.Tests.{le-leb, lt-leb}
use Rattle.file_fields.specs.Parts.{first_fault}
use Rattle.file_fields.proofs.TestLaws.{failed, itself, passed}
use Rattle.file_fields.proofs.header.count_fault.Goals as goal

pub returns-then-c-gt64 : goal.returns-then-c-gt64
unfolding first_fault
returns-then-c-gt64 c = rw (lt-leb _ _ c.if-c-gt64.true, c.at.ensures) (itself _)

pub returns-then-not-within : goal.returns-then-not-within
unfolding first_fault
returns-then-not-within c = rw (le-leb _ _ c.if-c-gt64.false, failed c.within.ensures c.if-not-within.true-raw, c.at-then-not-within.ensures) (itself _)

pub returns-then-not-within-2 : goal.returns-then-not-within-2
unfolding first_fault
returns-then-not-within-2 c = rw (le-leb _ _ c.if-c-gt64.false, passed c.within.ensures c.if-not-within.false-raw, failed c.within-2.ensures c.if-not-within-2.true-raw, c.at-then-not-within-2.ensures) (itself _)

pub returns-then-not-within-3 : goal.returns-then-not-within-3
unfolding first_fault
returns-then-not-within-3 c = rw (
  le-leb _ _ c.if-c-gt64.false,
  passed c.within.ensures c.if-not-within.false-raw,
  passed c.within-2.ensures c.if-not-within-2.false-raw,
  failed c.within-3.ensures c.if-not-within-3.true-raw,
  c.at-then-not-within-3.ensures,
) (itself _)

pub returns-then-c-gt2048 : goal.returns-then-c-gt2048
unfolding first_fault
returns-then-c-gt2048 c = rw (
  le-leb _ _ c.if-c-gt64.false,
  passed c.within.ensures c.if-not-within.false-raw,
  passed c.within-2.ensures c.if-not-within-2.false-raw,
  passed c.within-3.ensures c.if-not-within-3.false-raw,
  lt-leb _ _ c.if-c-gt2048.true,
  c.at-then-c-gt2048.ensures,
) (itself _)

pub returns : goal.returns
unfolding first_fault
returns c = rw (
  le-leb _ _ c.if-c-gt64.false,
  passed c.within.ensures c.if-not-within.false-raw,
  passed c.within-2.ensures c.if-not-within-2.false-raw,
  passed c.within-3.ensures c.if-not-within-3.false-raw,
  le-leb _ _ c.if-c-gt2048.false,
)
