-- Rows: sets that stand one after the other in lent words, row i of those from base on. A table of rows is a relation:
-- i is related to the members of row i.
use Rattle.std.specs.Prelude.{Bool, List, ℕ, ◌+◌, ◌*◌, ◌<◌, T, take, drop}
use Rattle.word_sets.specs.Sets.{in_set}

-- the four words of row i
unfoldable pub row : List ℕ → ℕ → ℕ → List ℕ
row w base i = take 4 (drop (base + 4 * i) w)

-- is j in row i?
unfoldable pub related : List ℕ → ℕ → ℕ → ℕ → Bool
related w base i j = in_set (row w base i) j

-- one of the first n rows relates i to j
abbrev pub Link : ℕ → (ℕ → ℕ → Bool) → ℕ → ℕ → Type 0
Link n R i j = (i < n) × T (R i j)

-- from i to k by any number of steps of R: its reflexive and transitive closure
pub data Closure (R : ℕ → ℕ → Type 0) : ℕ → ℕ → Type 0 where
  here : {i : ℕ} → Closure R i i
  next : {i j k : ℕ} → R i j → Closure R j k → Closure R i k
