-- Exploring: what exploring the live sets of one automaton asks of the words, and what it leaves there. The automaton stands in a block
-- (crate table_sets, specs/Stepping.antt; crate table_live, specs/Steps.antt); its live sets become the rows of a table with one set to a
-- row (crate live_table).
use Rattle.std.specs.Prelude.{Option, Some, None}
use Rattle.std.specs.Prelude.{◌≡◌, Bool, List, ℕ, ◌<◌, ◌≤◌, length}
use Rattle.std.proofs.Math.Option.{some}
use Rattle.std.proofs.Math.ListN.{get_elem?}
use Rattle.automata.specs.Live.{PlainArc}
use Rattle.file_fields.specs.declared.Counts.{Counts}
use Rattle.word_sets.specs.Sets.{view, ε_closed_set}
use Rattle.word_layout.specs.Layout.{Tabled, block_end, map_end, table_end}
use Rattle.word_layout.specs.declared.Block.{Block}
use Rattle.word_layout.specs.declared.SetTable.{SetTable}
use Rattle.table_live.specs.Steps.{Outgoing, Steppable}
use Rattle.live_table.specs.Entries.{Side}
use Rattle.live_table.specs.SetRows.{left_row}

-- whatever the words stand for: a step can be taken, the table has one set to a row, and what is written, the table and behind it the sets of
-- the letters, lies above the building's tables and the block
pub record Searchable (file : List ℕ) (c : Counts) (w : List ℕ) (block : Block) (tab : SetTable) (acc : ℕ) : Type 0 where
  pub steps : Steppable file c w block acc
  pub one : tab.sets ≡ 1
  pub tabled : Tabled w tab
  pub above_tables : map_end ≤ tab.rows
  pub above_block : block_end block.base ≤ tab.rows
  pub behind : table_end tab ≤ acc

-- both sides are the automaton of the block: its live sets are met as pairs, each set beside itself
pub record Twins (file : List ℕ) (c : Counts) (w : List ℕ) (block : Block) (x y : Side) : Type 0 where
  pub size : x.size ≡ block.count
  pub told : Outgoing file c w block x.arcs
  pub twin : y ≡ x

-- the n rows of the table are the sets, in their order, and no empty move leaves one
pub record Sets (count : ℕ) (arcs : List PlainArc) (tab : SetTable) (w : List ℕ) (n : ℕ) (sets : List (List Bool)) : Type 0 where
  pub many : length sets ≡ n
  pub each : (i : ℕ) (S : List Bool) → get_elem? sets i ≡ some S → (view count (left_row tab w i) ≡ S) × ε_closed_set count arcs (left_row tab w i)

-- the table holds the sets, or they are more than P
abbrev pub SetsOutcome : (P count : ℕ) → List PlainArc → SetTable → List ℕ → List (List Bool) → Option ℕ → Type 0
SetsOutcome P count arcs tab w sets None = P < length sets
SetsOutcome P count arcs tab w sets (Some n) = Sets count arcs tab w n sets
