-- `live_table::find_row` meets its contract. The loop's invariant: g is an entry of the chain of the key, and no later row is the one that
-- is looked for (Looked of crate word_fields).
use Prim.Native.Nat.{◌+◌, ◌%◌}
use Rattle.word_fields.proofs.Laws.{Looked}
use Rattle.live_table.specs.SetRows.{RowAt, first_set, key_of, last_set, left_row, right_row}
use Rattle.live_table.proofs.find_row.Given as goal

abbrev pub invariant-loop-g : goal.invariant-loop-g
invariant-loop-g g l = Looked (λ i. key_of (left_row l.t l.w i) (right_row l.t l.w i)) (key_of (first_set l.sets) (last_set l.sets)) (RowAt l.t l.w (first_set l.sets) (last_set l.sets)) l.n l.g

abbrev pub decreases-loop-g : goal.decreases-loop-g
decreases-loop-g g l = (l.g + 1) % 65536
