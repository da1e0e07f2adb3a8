use mathlib.Core.Path.{◌≡◌, ◌∙◌, sym}
use native.Mathlib.Omega.{arith}
use native.Mathlib.Numerals.{add-one}
use borrow.Author.Tests.{lt-ltb}
use lib.ListN.{length}
use Rattle.book_numbers.specs.Numbers.{number_in}
use Rattle.book_numbers.proofs.NumberLaws.{told-digit}
use Rattle.book_numbers.proofs.number_in.Goals as goal

pub returns-then-is_empty : goal.returns-then-is_empty
unfolding number_in
returns-then-is_empty c = let none : length c.args.text.now ≡ 0 = grind (arith, c.is_empty.ensures, c.if-is_empty.true) in rw none

pub loop-b-init : goal.loop-b-init
unfolding number_in
loop-b-init c = (omega arith, omega arith, rw (lt-ltb 0 (length c.args.text.now) (grind (arith, c.is_empty.ensures, c.if-is_empty.false))))

pub loop-b-preserved : goal.loop-b-preserved
loop-b-preserved c = (
  omega arith,
  omega (arith, c.with_digit-n.ensures),
  c.loop-b.invariant.2
      ∙ told-digit 18446744073709551615 c.loop-b.n c.args.text.now c.loop-b.b-index c.loop-b-test.true (sym c.is_digit.ensures ∙ c.if-not-is_digit.false)
      ∙ rw (c.with_digit-n.ensures, add-one),
)
