-- Places: where the table of live sets and the sets of the letters lie, and that the automaton stays where they are written.
use mathlib.Core.Path.{◌≡◌, refl}
use mathlib.Core.Logic.{◌⊎◌, inl, inr, ⊎_elim}
use mathlib.Core.List.{List}
use Prim.Native.Nat.{◌≤◌, ℕ}
use native.Mathlib.Omega.{arith}
use lib.ListN.{length}
use Rattle.file_fields.specs.declared.Counts.{Counts}
use Rattle.word_fields.specs.Frame.{Kept}
use Rattle.word_layout.specs.Layout.{Tabled, letter_sets, offsets, only_block, set_rows, set_table}
use Rattle.word_layout.specs.declared.Block.{Block}
use Rattle.table_sets.specs.Stepping.{Room}
use Rattle.table.specs.Standing.{Stands}
use Rattle.table.proofs.Laws.{stands-kept}

-- the table lies below the sets of the letters
pub tabled : {w : List ℕ} → letter_sets ≤ length w → Tabled w set_table
tabled h = record { one_or_two = inl refl; before = omega arith; long = omega arith }

-- these lie behind the block, and a step has room for them
pub step_room : {w : List ℕ} {base : ℕ} → base ≡ only_block → 8192 ≤ length w → Room w base letter_sets
step_room only enough = record { block = omega arith; rows = omega arith; apart = inr (omega arith) }

-- words below the building's tables or behind the block were written: the automaton stands as it did
pub only_kept : {file : List ℕ} {c : Counts} {w w' : List ℕ} {block : Block} {lo hi : ℕ} → Stands file c w block → block.base ≡ only_block → (hi ≤ offsets) ⊎ (set_rows ≤ lo) → Kept lo hi w w' → Stands file c w' block
only_kept h only beside k = ⊎_elim (λ l. stands-kept h (inl l) (inl (omega arith)) k) (λ l. stands-kept h (inr (omega arith)) (inr (omega arith)) k) beside
