-- `live_letters::meet_letter` meets its contract. The loop's invariant: the sets of the sides so far are those of the letter.
use Rattle.std.proofs.Common.{◌≡◌, ℕ, ◌<◌, [], get_or, length}
use Rattle.table_sets.specs.Stepping.{set_of}
use Rattle.live_letters.proofs.meet_letter.Given as goal

abbrev pub invariant-loop-k : goal.invariant-loop-k
invariant-loop-k g l = (length l.sets ≡ g.row.SETS) × ((j : ℕ) → j < l.k → get_or l.sets j [] ≡ set_of l.w (get_or l.acc j 0) (get_or l.met j 0) l.l)
