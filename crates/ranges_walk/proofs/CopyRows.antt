-- CopyRows: the rows behind a place, copied one after the other to those before the next. They are read above what is written.
use mathlib.Core.Path.{◌∙◌, ◌≡◌}
use mathlib.Core.List.{List}
use Prim.Native.Nat.{◌*◌, ◌+◌, ◌<◌, ℕ}
use native.Mathlib.Decide.{ℕ_discrete}
use native.Mathlib.Omega.{arith}
use Rattle.word_fields.specs.Frame.{Kept}
use Rattle.word_fields.proofs.Laws.{kept_same, kept_then, kept-wider}
use Rattle.word_rows.specs.Rows.{row}
use Rattle.word_rows.proofs.Laws.{row-above, row_other}
use Rattle.word_layout.specs.Layout.{offsets, set_rows}

-- the first i rows are copied
pub record Copied (w₀ w : List ℕ) (i : ℕ) : Type 0 where
  pub kept : Kept 0 offsets w₀ w
  pub rows : (p : ℕ) → p < i → row w 0 p ≡ row w₀ set_rows p

pub Copied-start : (w : List ℕ) → Copied w w 0
Copied-start w = record { kept = kept_same 0 offsets w; rows = λ p h. absurd (omega arith) }

pub copied_more : {w₀ w w' : List ℕ} {i : ℕ} (set : List ℕ) → i < 512 → Copied w₀ w i → set ≡ row w set_rows i → Kept (0 + 4 * i) (0 + 4 * i + 4) w w' → row w' 0 i ≡ set → Copied w₀ w' (i + 1)
copied_more {w₀} {w} {w'} {i} set few c e k is = record { kept = kept_then c.kept (kept-wider (omega arith) (omega arith) k); rows = λ p h. go p h (ℕ_discrete p i) }
  where
    go : (p : ℕ) → p < i + 1 → Dec (p ≡ i) → row w' 0 p ≡ row w₀ set_rows p
    go p h (yes z) = rw z (is ∙ e ∙ row-above set_rows i c.kept (omega arith))
    go p h (no z) = row_other 0 i p k z ∙ c.rows p (omega (arith, z))
