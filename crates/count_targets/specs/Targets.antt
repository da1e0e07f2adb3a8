-- Targets: the numbers of the live sets that the letters lead to.
use Rattle.std.specs.Prelude.{◌≡◌, List, [], ◌∷◌, ℕ, ◌+◌, ◌≤◌, ◌<◌}
use Rattle.word_layout.specs.Layout.{letter_sets, set_table}
use Rattle.table_sets.specs.Stepping.{set_of}
use Rattle.live_table.specs.SetRows.{Lacking, left_row}
use Rattle.count_sums.specs.Sums.{target_at}

-- r is the number of the row that has the set u, among the first n, or n where none has it
pub record NumberOf (w : List ℕ) (n : ℕ) (u : List ℕ) (r : ℕ) : Type 0 where
  pub few : r ≤ n
  pub hit : r < n → left_row set_table w r ≡ u
  pub miss : n ≤ r → Lacking set_table w n u u

-- r is the number of the empty set, once it is known: while it is not, r is above n
abbrev pub EmptyNumber : (w : List ℕ) (n r : ℕ) → Type 0
EmptyNumber w n r = r ≤ n → NumberOf w n (0 ∷ 0 ∷ 0 ∷ 0 ∷ []) r

-- the a fields from `from` on have the numbers of the sets of the letters that stand in the words w
abbrev pub Numbers : (w : List ℕ) (n met : ℕ) (w' : List ℕ) (from a : ℕ) → Type 0
Numbers w n met w' from a = (l : ℕ) → l < a → NumberOf w n (set_of w letter_sets met l) (target_at w' (from + l))
