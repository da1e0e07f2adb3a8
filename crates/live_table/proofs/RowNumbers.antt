-- RowNumbers: where the sets of a row stand among the sets of a table, one or two to a row.
use mathlib.Core.Path.{◌≡◌}
use mathlib.Core.Logic.{⊎_elim}
use mathlib.Core.List.{List}
use Prim.Native.Nat.{ℕ, ◌+◌, ◌-◌, ◌*◌, ◌≤◌, ◌<◌}
use native.Mathlib.Omega.{arith}
use Rattle.word_layout.specs.Layout.{Tabled}
use Rattle.word_layout.specs.declared.SetTable.{SetTable}

-- a row has a set, two at most, and its sets stand before those of a later row
pub record Numbered (t : SetTable) (p n : ℕ) : Type 0 where
  pub some_set : 1 ≤ t.sets
  pub two_most : t.sets ≤ 2
  pub later : t.sets * p + t.sets ≤ t.sets * n

pub numbered : {w : List ℕ} {t : SetTable} → Tabled w t → {p n : ℕ} → p < n → Numbered t p n
numbered {w} {t} d {p} {n} l = ⊎_elim
    (λ (e : t.sets ≡ 1). record { some_set = omega arith; two_most = omega arith; later = rw e (omega arith) })
    (λ (e : t.sets ≡ 2). record { some_set = omega arith; two_most = omega arith; later = rw e (omega arith) })
    d.one_or_two

-- the sets of a row end before the index
module _ {w : List ℕ} {t : SetTable} (d : Tabled w t) {p : ℕ} (l : p < 512) where
  pub left-ends : t.rows + 4 * (t.sets * p) + 4 ≤ t.index
  left-ends = let n = numbered d l in omega (arith, n.some_set, n.later, d.before)

  pub right-ends : t.rows + 4 * (t.sets * p + (t.sets - 1)) + 4 ≤ t.index
  right-ends = let n = numbered d l in omega (arith, n.some_set, n.later, d.before)
