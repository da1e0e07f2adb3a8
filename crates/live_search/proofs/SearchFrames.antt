-- SearchFrames: the table and the sets of the letters are written above the building's tables and the block, which stay as they are; and rows that
-- stay as they are hold the same sets.
use mathlib.Core.Path.{◌∙◌, ◌≡◌, ap, subst, sym}
use mathlib.Core.Logic.{inr}
use mathlib.Core.Bool.{Bool}
use mathlib.Core.List.{List}
use Prim.Native.Nat.{◌+◌, ◌<◌, ℕ}
use native.Mathlib.Omega.{arith}
use Rattle.automata.specs.Live.{PlainArc}
use Rattle.automata.proofs.Laws.{get_elem?-lt}
use Rattle.file_fields.specs.declared.Counts.{Counts}
use Rattle.word_fields.specs.Frame.{Kept}
use Rattle.word_sets.specs.Sets.{view, ε_closed_set}
use Rattle.word_layout.specs.declared.Block.{Block}
use Rattle.word_layout.specs.declared.SetTable.{SetTable}
use Rattle.table_file_steps.proofs.Laws.{SameMap, map-kept}
use Rattle.table_live.specs.Steps.{Outgoing}
use Rattle.table_live.proofs.Laws.{Outgoing-kept, Steppable-kept}
use Rattle.live_table.specs.Entries.{Side}
use Rattle.live_table.specs.SetRows.{left_row}
use Rattle.live_table.proofs.Laws.{tabled-kept}
use Rattle.live_search.specs.Exploring.{Searchable, Sets, Twins}

module _ {file : List ℕ} {c : Counts} {w w' : List ℕ} {block : Block} {tab : SetTable} {acc : ℕ} (s : Searchable file c w block tab acc) (k : Kept tab.rows (acc + 256) w w') where
  same_map : SameMap block w w'
  same_map = map-kept block (inr s.above_tables) (inr s.above_block) s.steps.findable.configured.few k

  pub Searchable-kept : Searchable file c w' block tab acc
  Searchable-kept = record {
    steps = Steppable-kept same_map s.steps;
    one = s.one;
    tabled = tabled-kept k s.tabled;
    above_tables = s.above_tables;
    above_block = s.above_block;
    behind = s.behind;
  }

  pub Outgoing-stays : {arcs : List PlainArc} → Outgoing file c w block arcs → Outgoing file c w' block arcs
  Outgoing-stays o = Outgoing-kept same_map o

  pub Twins-kept : {x y : Side} → Twins file c w block x y → Twins file c w' block x y
  Twins-kept t = record { size = t.size; told = Outgoing-stays t.told; twin = t.twin }

-- a table whose rows are those of another holds the same sets
pub sets_same : {count : ℕ} {arcs : List PlainArc} {tab tab' : SetTable} {w w' : List ℕ} {n : ℕ} {sets : List (List Bool)}
    → ((i : ℕ) → i < n → left_row tab' w' i ≡ left_row tab w i) → Sets count arcs tab w n sets → Sets count arcs tab' w' n sets
sets_same {count} {arcs} {tab} {tab'} {w} {w'} {n} {sets} same h = record {
  many = h.many;
  each = λ i S e.
      let r = h.each i S e in
      let q = same i (omega (arith, get_elem?-lt sets i e, h.many)) in
      (ap (view count) q ∙ r.0, subst (λ (u : List ℕ). ε_closed_set count arcs u) (sym q) r.1);
}
