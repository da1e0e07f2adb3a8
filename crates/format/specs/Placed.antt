-- Placed: arcs that stand whole in a file, as code that walks them asks for; those of a valid file do.
use Rattle.std.specs.Prelude.{List, ℕ, zero, suc, ◌+◌, ◌%◌, ◌<◌, ◌≤◌, length, get_or, drop}
use Rattle.file_fields.specs.Parts.{arc_size}

-- how many bytes the m arcs at the front of l take
unfoldable pub whole : ℕ → List ℕ → ℕ
whole zero l = 0
whole (suc m) l = arc_size l + whole m (drop (arc_size l) l)

-- p operations, each with a register below n and a symbol below 16
unfoldable pub OkOps : ℕ → ℕ → List ℕ → Type 0
OkOps n zero l = Unit {0}
OkOps n (suc p) l = (get_or l 0 0 % 16 < n) × (get_or l 1 0 < 16) × OkOps n p (drop 2 l)

-- m arcs, each with at most 8 such operations
unfoldable pub OkArcs : ℕ → ℕ → List ℕ → Type 0
OkArcs n zero l = Unit {0}
OkArcs n (suc m) l = (get_or l 3 0 < 9) × OkOps n (get_or l 3 0) (drop 4 l) × OkArcs n m (drop (arc_size l) l)

-- the m arcs stand at the place `first` of a file with n registers
pub record Lies (n m first : ℕ) (file : List ℕ) : Type 0 where
  pub registers : n ≤ 8
  pub few : m ≤ 2048
  pub fits : first + whole m (drop first file) ≤ length file
  pub ok : OkArcs n m (drop first file)
