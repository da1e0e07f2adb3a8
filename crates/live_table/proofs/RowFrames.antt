-- RowFrames: words that are written beside a table leave its rows, their parents and their chains as they are.
use mathlib.Core.Path.{◌≡◌, ap, ap₂, sym}
use mathlib.Core.Logic.{◌⊎◌, ⊎_elim}
use mathlib.Core.List.{List}
use Prim.Native.Nat.{ℕ, ◌+◌, ◌-◌, ◌*◌, ◌/◌, ◌≤◌, ◌<◌}
use native.Mathlib.Omega.{arith}
use lib.ListN.{get_or}
use Rattle.word_fields.specs.Frame.{Kept}
use Rattle.word_fields.specs.Fields.{field}
use Rattle.word_fields.proofs.Laws.{chain-kept, field-same}
use Rattle.word_rows.specs.Rows.{row}
use Rattle.word_rows.proofs.Laws.{row-above, row_below}
use Rattle.word_layout.specs.Layout.{Tabled, heads_at, nexts_at, parents_at, table_end}
use Rattle.word_layout.specs.declared.SetTable.{SetTable}
use Rattle.live_table.specs.SetRows.{RowChain, key_of, left_row, right_row}
use Rattle.live_table.proofs.RowNumbers.{left-ends, right-ends}

-- the words from a to before b are none of the table's
abbrev pub Outside : SetTable → ℕ → ℕ → Type 0
Outside t a b = (b ≤ t.rows) ⊎ (table_end t ≤ a)

pub tabled-kept : {w w' : List ℕ} {t : SetTable} {a b : ℕ} → Kept a b w w' → Tabled w t → Tabled w' t
tabled-kept k d = record { one_or_two = d.one_or_two; before = d.before; long = omega (arith, k.long, d.long) }

module _ {w w' : List ℕ} {t : SetTable} {a b : ℕ} (d : Tabled w t) (k : Kept a b w w') (outside : Outside t a b) where
  -- a word of the table
  word_kept : (j : ℕ) → t.rows ≤ j → j < table_end t → get_or w' j 0 ≡ get_or w j 0
  word_kept j h g = ⊎_elim (λ x. k.above j (omega arith)) (λ x. k.below j (omega arith)) outside

  set-kept : (q : ℕ) → t.rows + 4 * q + 4 ≤ t.index → row w' t.rows q ≡ row w t.rows q
  set-kept q h = ⊎_elim (λ x. row-above t.rows q k (omega arith)) (λ x. row_below t.rows q k (omega arith)) outside

  pub left-kept : (p : ℕ) → p < 512 → left_row t w' p ≡ left_row t w p
  left-kept p h = set-kept (t.sets * p) (left-ends d h)

  pub right_kept : (p : ℕ) → p < 512 → right_row t w' p ≡ right_row t w p
  right_kept p h = set-kept (t.sets * p + (t.sets - 1)) (right-ends d h)

  pub parent-kept : (p : ℕ) → p < 512 → field w' (parents_at t) p ≡ field w (parents_at t) p
  parent-kept p h = field-same w w' (parents_at t) p (word_kept (parents_at t + p / 4) (omega (arith, d.before)) (omega arith))

  pub rows-kept : {n : ℕ} → n ≤ 512 → RowChain t w n → RowChain t w' n
  rows-kept few c =
      chain-kept (λ j l. ap₂ key_of (sym (left-kept j (omega arith))) (sym (right_kept j (omega arith))))
      (λ i l. word_kept (heads_at t + i / 4) (omega (arith, d.before)) (omega arith)) (λ j l. word_kept (nexts_at t + j / 4) (omega (arith, d.before)) (omega arith)) c

-- where a row has one set, its right one is its left one
pub same_row : (t : SetTable) → t.sets ≡ 1 → (w : List ℕ) (i : ℕ) → right_row t w i ≡ left_row t w i
same_row t e w i = let z : t.sets * i + (t.sets - 1) ≡ t.sets * i = omega arith in ap (row w t.rows) z
