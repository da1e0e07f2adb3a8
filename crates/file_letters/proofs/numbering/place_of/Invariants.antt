-- `place_of` meets its contract: the letters before the loop's place are other letters than the byte's.
use mathlib.Core.Path.{◌≡◌}
use mathlib.Core.Bool.{false}
use Prim.Native.Nat.{ℕ, ◌<◌}
use lib.ListN.{get_or}
use Rattle.automata.specs.Letters.{same_key}
use Rattle.file_letters.proofs.numbering.place_of.Given as goal

abbrev pub invariant-loop-i : goal.invariant-loop-i
invariant-loop-i l = (k : ℕ) → k < l.i → same_key l.byte (get_or l.letters k 0) ≡ false
