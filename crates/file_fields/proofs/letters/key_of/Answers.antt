-- The key of a byte: the test is that of the definition.
use Prim.Native.Nat.{◌+◌}
use native.Mathlib.Omega.{arith}
use borrow.Author.Tests.{leb-true}
use lib.Dec.{leb}
use Rattle.automata.specs.Letters.{key}
use Rattle.file_fields.proofs.TestLaws.{and_both, itself}
use Rattle.file_fields.proofs.letters.key_of.Goals as goal

pub overflow_add-result : goal.overflow_add-result
overflow_add-result c = let h = leb-true c.args.byte 0x5A (and_both (leb 0x41 c.args.byte) (leb c.args.byte 0x5A) c.if-byte.true).1 in omega arith

pub returns-then-byte : goal.returns-then-byte
unfolding key
returns-then-byte c = rw c.if-byte.true (itself (c.args.byte + 0x20))

pub returns : goal.returns
unfolding key
returns c = rw c.if-byte.false
