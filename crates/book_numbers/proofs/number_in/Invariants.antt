-- `book_numbers::number_in` meets its contract. The loop's invariant: the text tells what the bytes that are left tell behind
-- the number of those passed.
use mathlib.Core.Path.{◌≡◌}
use Prim.Native.Nat.{◌≤◌}
use lib.ListN.{drop, length}
use Rattle.book_numbers.specs.Numbers.{number_in, told_from}
use Rattle.book_numbers.proofs.number_in.Given as goal

abbrev pub invariant-loop-b : goal.invariant-loop-b
invariant-loop-b l = (l.b-index ≤ length l.text) × (l.n ≤ 18446744073709551615) × (number_in l.text ≡ told_from 18446744073709551615 l.n (drop l.b-index l.text))
