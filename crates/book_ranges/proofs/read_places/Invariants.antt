-- `book_ranges::read_places` meets its contract. The loop's invariant: what is left of the text adds to what is written and answered what
-- the whole text does (Reading of proofs/Turns.antt).
use Prim.Native.Nat.{◌-◌}
use lib.ListN.{length}
use Rattle.book_ranges.proofs.Turns.{Reading}
use Rattle.book_ranges.proofs.read_places.Given as goal

abbrev pub invariant-loop-i : goal.invariant-loop-i
invariant-loop-i l = Reading l.letters l.text l.initial.places l.places l.n l.i

abbrev pub decreases-loop-i : goal.decreases-loop-i
decreases-loop-i l = length l.text - l.i
