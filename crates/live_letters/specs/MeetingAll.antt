-- MeetingAll: the sets of letters met one after the other, each as crate live_table says of a single row (`Met`).
use Rattle.std.specs.Prelude.{Option, Some, None}
use Rattle.std.specs.Prelude.{◌≡◌, ◌⊎◌, List, [], ◌∷◌, ℕ, ◌+◌, ◌*◌}
use Rattle.word_layout.specs.declared.SetTable.{SetTable}
use Rattle.live_table.specs.SetRows.{Met}

-- from row i each letter l of the list leads to the sets `us l` and `vs l`: these are met in their order, from n rows on, up to one that there is no
-- room for
unfoldable pub MetAll : (t : SetTable) (us vs : ℕ → List ℕ) (i : ℕ) (letters : List ℕ) (w : List ℕ) (n : ℕ) (w' : List ℕ) → Option ℕ → Type 0
MetAll t us vs i [] w n w' r = (w' ≡ w) × (r ≡ Some n)
MetAll t us vs i (l ∷ letters) w n w' r =
    (Met t w w' n (us l) (vs l) (i * 64 + l) None × (r ≡ None))
    ⊎ ((v : List ℕ) × (m : ℕ) × Met t w v n (us l) (vs l) (i * 64 + l) (Some m) × MetAll t us vs i letters v m w' r)
