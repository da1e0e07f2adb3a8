-- `table_letters::row_of` meets its contract.
use borrow.Author.Tests.{le-ltb, lt-ltb}
use native.Mathlib.Omega.{arith}
use Rattle.table_letters.specs.Lettered.{row_of}
use Rattle.table_letters.proofs.row_of.Goals as goal

pub returns-then-byte-letters : goal.returns-then-byte-letters
unfolding row_of
returns-then-byte-letters c = (rw (lt-ltb _ _ c.if-byte-letters.true), omega (arith, c.if-byte-letters.true))

pub returns-else-byte-letters : goal.returns-else-byte-letters
unfolding row_of
returns-else-byte-letters c = (rw (le-ltb _ _ c.if-byte-letters.false), omega arith)
