-- `word_rows::close_rows` meets its contract. The loop's invariant: the rows relate what paths through numbers below k do (Closing).
use Prim.Native.Nat.{◌+◌, ◌*◌, ◌-◌}
use Rattle.word_fields.specs.Frame.{Kept}
use Rattle.word_rows.specs.Rows.{related}
use Rattle.word_rows.proofs.Warshall.{Closing}
use Rattle.word_rows.proofs.close_rows.Given as goal

abbrev pub invariant-loop-k : goal.invariant-loop-k
invariant-loop-k l = Kept l.base (l.base + 4 * l.n) l.initial.w l.w × Closing l.n l.k (related l.initial.w l.base) (related l.w l.base)

abbrev pub decreases-loop-k : goal.decreases-loop-k
decreases-loop-k l = l.n - l.k
