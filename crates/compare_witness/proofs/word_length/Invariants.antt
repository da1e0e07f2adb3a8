-- `compare_witness::word_length` meets its contract. The loop's invariant: the word of row k and the letters passed make up the whole length.
use Rattle.compare_witness.specs.Spelled.{spelled}
use lib.ListN.{length}
use Prim.Native.Nat.{◌+◌, ◌≤◌}
use mathlib.Core.Path.{◌≡◌}
use Rattle.compare_witness.proofs.word_length.Given as goal

abbrev pub invariant-loop-k : goal.invariant-loop-k
invariant-loop-k l = (l.len + l.k ≤ l.from) × (length (spelled l.t l.w l.from l.from) ≡ length (spelled l.t l.w l.from l.k) + l.len)

abbrev pub decreases-loop-k : goal.decreases-loop-k
decreases-loop-k l = l.k
