-- `live_table::add_row` meets its contract. The loop's invariant: the sets so far are stored.
use Rattle.std.proofs.Common.{◌≡◌, ℕ, ◌+◌, ◌*◌, ◌<◌, [], get_or}
use Rattle.word_fields.specs.Frame.{Kept}
use Rattle.word_rows.specs.Rows.{row}
use Rattle.live_table.proofs.add_row.Given as goal

abbrev pub invariant-loop-k : goal.invariant-loop-k
invariant-loop-k g l =
    Kept (l.t.rows + 4 * (l.t.sets * l.n)) (l.t.rows + 4 * (l.t.sets * l.n + l.k)) l.initial.w l.w × ((j : ℕ) → j < l.k → row l.w l.t.rows (l.t.sets * l.n + j) ≡ get_or l.fn.sets j [])
