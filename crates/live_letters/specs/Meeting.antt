-- Meeting: what meeting the letters from a row asks of a table of live sets (crate live_table), and what it leaves there.
use Rattle.std.specs.Prelude.{Option, Some, None}
use Rattle.std.specs.Prelude.{◌≡◌, Bool, false, List, [], ◌∷◌, ℕ, ◌+◌, ◌-◌, ◌<◌, ◌≤◌, T, get_or, length}
use Rattle.automata.specs.Live.{by_letter}
use Rattle.automata.specs.Search.{Entry}
use Rattle.automata.specs.Pairs.{Pair}
use Rattle.word_sets.specs.Sets.{bit, view, ε_closed_set}
use Rattle.table_sets.specs.Stepping.{set_of}
use Rattle.word_layout.specs.Layout.{table_end}
use Rattle.word_layout.specs.declared.SetTable.{SetTable}
use Rattle.live_table.specs.Entries.{Holds, Side, Tree}
use Rattle.live_table.specs.SetRows.{RowAt, RowChain}

-- ---- whatever the words stand for

-- n rows stand in the table, with their parents and letters, and can be found
pub record Table (a : ℕ) (tab : SetTable) (w : List ℕ) (n : ℕ) : Type 0 where
  pub few : n ≤ 512
  pub tree : Tree a tab w n
  pub chain : RowChain tab w n

-- the table has become one of m rows, no fewer than n, unless there are too many
abbrev pub Grows : (a : ℕ) (tab : SetTable) (w : List ℕ) (n : ℕ) → Option ℕ → Type 0
Grows a tab w n None = Unit {0}
Grows a tab w n (Some m) = (n ≤ m) × Table a tab w m

-- one of the first n rows is that of two empty sets
pub record EmptyRow (tab : SetTable) (w : List ℕ) (n : ℕ) : Type 0 where
  pub place : ℕ
  pub low : place < n
  pub is : RowAt tab w (0 ∷ 0 ∷ 0 ∷ 0 ∷ []) (0 ∷ 0 ∷ 0 ∷ 0 ∷ []) place

-- the sets that steps leave for the letters stand behind the table, in 64 rows from each word of `acc` on
pub record LetterRoom (tab : SetTable) (w : List ℕ) (acc : List ℕ) : Type 0 where
  pub behind : (j : ℕ) → j < length acc → table_end tab ≤ get_or acc j 0
  pub long : (j : ℕ) → j < length acc → get_or acc j 0 + 256 ≤ length w

-- of these, where the words of `met` say which letters are met, the left set of letter l: the first one; and the right set: the last one, which
-- is the left one where there is one
abbrev pub left_set : (w acc met : List ℕ) (l : ℕ) → List ℕ
left_set w acc met l = set_of w (get_or acc 0 0) (get_or met 0 0) l

abbrev pub right_set : (w acc met : List ℕ) (l : ℕ) → List ℕ
right_set w acc met l = set_of w (get_or acc (length acc - 1) 0) (get_or met (length met - 1) 0) l

-- r is a letter behind l, with none between them but, where `dead`, letters that are not met
pub record NextLetter (met : ℕ) (dead : Bool) (l r : ℕ) : Type 0 where
  pub later : l < r
  pub between : (j : ℕ) → l < j → j < r → T dead × (bit met j ≡ false)

-- ---- what the words stand for

-- the set u is the live set S behind letter l
abbrev pub Behind : Side → List Bool → ℕ → List ℕ → Type 0
Behind s S l u = (view s.size u ≡ by_letter s.size s.arcs S l) × ε_closed_set s.size s.arcs u

-- the sets of the letters are those behind the pair q
abbrev pub LetterSets : ℕ → Side → Side → (w acc met : List ℕ) → Pair → Type 0
LetterSets a s t w acc met q = (l : ℕ) → l < a → Behind s q.left l (left_set w acc met l) × Behind t q.right l (right_set w acc met l)

-- the table holds the entries, or they are more than P
abbrev pub Outcome : ℕ → SetTable → Side → Side → List ℕ → List (Entry Pair) → Option ℕ → Type 0
Outcome P tab s t w es None = P < length es
Outcome P tab s t w es (Some n) = Holds tab s t w n es
