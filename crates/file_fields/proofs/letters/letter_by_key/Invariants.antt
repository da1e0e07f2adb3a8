-- `letter_by_key` meets its contract: the letters before the loop's place are other letters than the byte's.
use mathlib.Core.Path.{◌≡◌}
use Prim.Native.Nat.{ℕ, ◌<◌}
use lib.ListN.{get_or}
use Rattle.automata.specs.Letters.{key}
use Rattle.file_fields.proofs.letters.letter_by_key.Given as goal

abbrev pub invariant-loop-i : goal.invariant-loop-i
invariant-loop-i l = ((k : ℕ) → k < l.i → ¬ (key (get_or l.letters k 0) ≡ key l.byte))
