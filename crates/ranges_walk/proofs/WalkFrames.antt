-- WalkFrames: what is written while places are walked leaves the automaton, and rows that were not written, as they were.
use mathlib.Core.Path.{◌∙◌, ◌≡◌, ap, refl, subst, sym}
use mathlib.Core.Logic.{◌⊎◌}
use mathlib.Core.Bool.{Bool}
use mathlib.Core.List.{List, [], ◌∷◌}
use mathlib.Core.Option.{some-injective, some}
use Prim.Native.Nat.{◌*◌, ◌≤◌, suc, zero, ℕ}
use native.Mathlib.Omega.{arith}
use lib.ListN.{get_elem?, length}
use Rattle.automata.specs.Live.{PlainArc}
use Rattle.automata.specs.LiveSets.{behind}
use Rattle.automata.specs.Unfolding.{configurations, plain_arcs}
use Rattle.automata.proofs.Laws.{none-some}
use Rattle.file_fields.specs.declared.Counts.{Counts}
use Rattle.format.specs.Decoding.{automaton_of}
use Rattle.word_fields.specs.Frame.{Kept}
use Rattle.word_sets.specs.Sets.{view, ε_closed_set}
use Rattle.word_rows.specs.Rows.{row}
use Rattle.word_rows.proofs.Laws.{row_below}
use Rattle.word_layout.specs.Layout.{before_table, offsets, set_rows}
use Rattle.word_layout.specs.declared.Block.{Block}
use Rattle.word_layout.specs.declared.SetTable.{SetTable}
use Rattle.live_table.specs.SetRows.{left_row}
use Rattle.live_search.proofs.Laws.{sets_same}
use Rattle.live_building.proofs.Laws.{only_kept}
use Rattle.ranges_walk.specs.Walking.{LiveAt, Ready, SetsIn}

-- ---- of the automaton in the file: how many configurations it has, its plain arcs, and the live set behind a letter
abbrev pub count : (file : List ℕ) → ℕ
count file = length (configurations (automaton_of file) 256)

abbrev pub arcs : (file : List ℕ) → List PlainArc
arcs file = plain_arcs (automaton_of file) 256

abbrev pub behind_in : (file : List ℕ) → List Bool → ℕ → List Bool
behind_in file = behind (automaton_of file) 256

-- ---- what stays
-- words below the building's tables or behind the block were written: the automaton stands as it did
pub ready-kept : {file : List ℕ} {c : Counts} {w w' : List ℕ} {block : Block} {lo hi : ℕ} → Ready file c w block → (hi ≤ offsets) ⊎ (set_rows ≤ lo) → Kept lo hi w w' → Ready file c w' block
ready-kept {file} {c} {w} {w'} {block} r beside k = record {
  stands = only_kept r.stands r.only beside k;
  only = r.only;
  enough = omega (arith, k.long, r.enough);
}

-- where a table has one set to a row, row i is the i-th four words
pub one-row : (tab : SetTable) → tab.sets ≡ 1 → (w : List ℕ) (i : ℕ) → left_row tab w i ≡ row w tab.rows i
one-row tab e w i = let z : tab.sets * i ≡ i = rw e (omega arith) in ap (row w tab.rows) z

-- the rows before the place stand below the table
pub before-kept : (file : List ℕ) {w w' : List ℕ} {n lo hi : ℕ} {sets : List (List Bool)} → n ≤ 512 → set_rows ≤ lo → Kept lo hi w w' → SetsIn file before_table w n sets → SetsIn file before_table w' n sets
before-kept file few above k h = sets_same (λ i l. row_below 0 (1 * i) k (omega arith)) h

-- a live set in row 0 is the only one before the first place
pub start-sets : (file : List ℕ) {w : List ℕ} (set : List ℕ) {S : List Bool} → row w 0 0 ≡ set → (view (count file) set ≡ S) × ε_closed_set (count file) (arcs file) set → SetsIn file before_table w 1 (S ∷ [])
start-sets file {w} set {S} is live = record { many = refl; each = only }
  where
    only : (i : ℕ) (R : List Bool) → get_elem? (S ∷ []) i ≡ some R → LiveAt file w i R
    only zero R e = (ap (view (count file)) is ∙ live.0 ∙ some-injective S R e, subst (λ (u : List ℕ). ε_closed_set (count file) (arcs file) u) (sym is) live.1)
    only (suc i) R e = none-some refl e
