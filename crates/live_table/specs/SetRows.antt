-- SetRows: rows of live sets put into a table, and found again along the chains of their keys.
use Rattle.std.specs.Prelude.{Option, Some, None}
use Rattle.std.specs.Prelude.{◌≡◌, ◌⊎◌, List, [], ℕ, ◌+◌, ◌-◌, ◌*◌, ◌/◌, ◌%◌, ◌^◌, ◌≤◌, ◌<◌, get_or, length}
use Rattle.std.specs.Int.Bits.{bit_or, bit_xor}
use Rattle.word_fields.specs.Frame.{Kept}
use Rattle.word_fields.specs.Fields.{field}
use Rattle.word_fields.specs.Chains.{Chain}
use Rattle.word_sets.specs.Sets.{in_set}
use Rattle.word_rows.specs.Rows.{row}
use Rattle.word_layout.specs.Layout.{heads_at, nexts_at, parents_at, table_end}
use Rattle.word_layout.specs.declared.SetTable.{SetTable}

-- ---- the key of a row: any number below 509 that depends on the eight words alone would do

-- the word x, its digits moved up by k places and those that fall out put in below
unfoldable pub turn : ℕ → ℕ → ℕ
turn x k = bit_or (x * 2 ^ k % 2 ^ 64) (x / 2 ^ (64 - k))

-- the key: the eight words, each turned by another number of places, so that equal words do not cancel
unfoldable pub key_of : List ℕ → List ℕ → ℕ
unfolding turn
key_of u v =
    bit_xor (bit_xor (bit_xor (bit_xor (bit_xor (bit_xor (bit_xor (get_or u 0 0) (turn (get_or u 1 0) 7)) (turn (get_or u 2 0) 19)) (turn (get_or u 3 0) 29)) (turn (get_or v 0 0) 37)) (turn (get_or v 1 0) 43)) (turn (get_or v 2 0) 53)) (turn (get_or v 3 0) 61) % 509

-- ---- the rows of a table

-- the left set of row i: the first of its sets
abbrev pub left_row : SetTable → List ℕ → ℕ → List ℕ
left_row t w i = row w t.rows (t.sets * i)

-- the right set of row i: the last of its sets, which is the left one where a row has one set
abbrev pub right_row : SetTable → List ℕ → ℕ → List ℕ
right_row t w i = row w t.rows (t.sets * i + (t.sets - 1))

-- row i holds u and v
abbrev pub RowAt : SetTable → List ℕ → List ℕ → List ℕ → ℕ → Type 0
RowAt t w u v i = (left_row t w i ≡ u) × (right_row t w i ≡ v)

-- of the sets of a row, one or two, the left one and the right one
abbrev pub first_set : List (List ℕ) → List ℕ
first_set sets = get_or sets 0 []

abbrev pub last_set : List (List ℕ) → List ℕ
last_set sets = get_or sets (length sets - 1) []

-- row i holds these sets
abbrev pub LineAt : SetTable → List ℕ → List (List ℕ) → ℕ → Type 0
LineAt t w sets i = RowAt t w (first_set sets) (last_set sets) i

-- the chains of the first n rows
abbrev pub RowChain : SetTable → List ℕ → ℕ → Type 0
RowChain t w n = Chain (λ i. key_of (left_row t w i) (right_row t w i)) w (heads_at t) (nexts_at t) 509 n

-- none of the first n rows has the members of u and of v
abbrev pub Lacking : SetTable → List ℕ → ℕ → List ℕ → List ℕ → Type 0
Lacking t w n u v = (p : ℕ) → p < n → ((j : ℕ) → in_set (left_row t w p) j ≡ in_set u j) → ((j : ℕ) → in_set (right_row t w p) j ≡ in_set v j) → ⊥

-- the row that holds u and v, if one of the first n does
abbrev pub FoundRow : (t : SetTable) (w u v : List ℕ) (n : ℕ) → Option ℕ → Type 0
FoundRow t w u v n None = (i : ℕ) → i < n → ¬ RowAt t w u v i
FoundRow t w u v n (Some i) = (i < n) × RowAt t w u v i

-- row n holds u and v, and `from` tells its parent and letter; the rows before it are as they were, and so is what stands beside the table
pub record Added (t : SetTable) (w w' : List ℕ) (n : ℕ) (u v : List ℕ) (from : ℕ) : Type 0 where
  pub kept : Kept t.rows (table_end t) w w'
  pub new : RowAt t w' u v n
  pub old : (p : ℕ) → p < n → RowAt t w' (left_row t w p) (right_row t w p) p
  pub own : field w' (parents_at t) n ≡ from
  pub others : (p : ℕ) → p < n → field w' (parents_at t) p ≡ field w (parents_at t) p
  pub chain : RowChain t w' (n + 1)

-- ---- meeting u and v: one of the n rows holds them, or the next one comes to, or there is no room for it

-- one of them does, and nothing is written
pub record Old (t : SetTable) (w w' : List ℕ) (n m : ℕ) (u v : List ℕ) : Type 0 where
  pub same : w' ≡ w
  pub many : m ≡ n
  pub place : ℕ
  pub low : place < n
  pub is : RowAt t w u v place

-- none of them does, and the next one comes to
pub record New (t : SetTable) (w w' : List ℕ) (n m : ℕ) (u v : List ℕ) (from : ℕ) : Type 0 where
  pub many : m ≡ n + 1
  pub room : n < 512
  pub lacks : Lacking t w n u v
  pub added : Added t w w' n u v from

-- none of them does, and there is no room
pub record Full (t : SetTable) (w w' : List ℕ) (n : ℕ) (u v : List ℕ) : Type 0 where
  pub same : w' ≡ w
  pub many : 512 ≤ n
  pub lacks : Lacking t w n u v

-- the words once they are met, by what is answered
abbrev pub Met : (t : SetTable) (w w' : List ℕ) (n : ℕ) (u v : List ℕ) (from : ℕ) → Option ℕ → Type 0
Met t w w' n u v from None = Full t w w' n u v
Met t w w' n u v from (Some m) = Old t w w' n m u v ⊎ New t w w' n m u v from
