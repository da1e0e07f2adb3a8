-- Walking: what the words hold while the places of a word with ranges are walked: the automaton of a valid file, built; the live sets before a
-- place, in rows of their own; and those behind it, in the table of live sets (crate word_layout, specs/Layout.antt).
use Rattle.std.specs.Prelude.{Option, Some, None}
use Rattle.std.specs.Prelude.{◌≡◌, Bool, false, List, ℕ, ◌≤◌, T, length}
use Rattle.automata.specs.LiveSets.{behind, same_set}
use Rattle.automata.specs.Unfolding.{configurations, plain_arcs}
use Rattle.fillings.specs.Fillings.{Range, behind_places, many_behind}
use Rattle.file_fields.specs.declared.Counts.{Counts}
use Rattle.format.specs.Decoding.{automaton_of}
use Rattle.word_sets.specs.Sets.{view, ε_closed_set}
use Rattle.word_layout.specs.Layout.{before_table, only_block, set_table}
use Rattle.word_layout.specs.declared.Block.{Block}
use Rattle.word_layout.specs.declared.SetTable.{SetTable}
use Rattle.table.specs.Standing.{Stands}
use Rattle.live_table.specs.SetRows.{RowChain, left_row}
use Rattle.live_search.specs.Exploring.{Sets, SetsOutcome}

-- the automaton of the file is built right behind the building's tables, and the words are there
pub record Ready (file : List ℕ) (c : Counts) (w : List ℕ) (block : Block) : Type 0 where
  pub stands : Stands file c w block
  pub only : block.base ≡ only_block
  pub enough : 8192 ≤ length w

-- row i before the place is the live set S, which no empty move leaves
abbrev pub LiveAt : (file w : List ℕ) (i : ℕ) → List Bool → Type 0
LiveAt file w i S =
    (view (length (configurations (automaton_of file) 256)) (left_row before_table w i) ≡ S)
    × ε_closed_set (length (configurations (automaton_of file) 256)) (plain_arcs (automaton_of file) 256) (left_row before_table w i)

-- the first n rows of the table are these live sets, in their order
abbrev pub SetsIn : (file : List ℕ) → SetTable → (w : List ℕ) (n : ℕ) → List (List Bool) → Type 0
SetsIn file tab w n sets = Sets (length (configurations (automaton_of file) 256)) (plain_arcs (automaton_of file) 256) tab w n sets

-- these live sets stand behind the place, or they are more than 512
abbrev pub BehindPlace : (file w : List ℕ) → List (List Bool) → Option ℕ → Type 0
BehindPlace file w sets r = SetsOutcome 512 (length (configurations (automaton_of file) 256)) (plain_arcs (automaton_of file) 256) set_table w sets r

-- the rows behind the place can be found, whatever they stand for
abbrev pub Chained : (w : List ℕ) → Option ℕ → Type 0
Chained w None = Unit {0}
Chained w (Some n) = (n ≤ 512) × RowChain set_table w n

-- behind one of the places there are more than 512 live sets; or those behind the last one stand where those before a place do
abbrev pub Walked : (file w : List ℕ) (sets : List (List Bool)) → List Range → Option ℕ → Type 0
Walked file w sets rs None = T (many_behind same_set (behind (automaton_of file) 256) 512 sets rs)
Walked file w sets rs (Some n) =
    (many_behind same_set (behind (automaton_of file) 256) 512 sets rs ≡ false)
    × ((n ≤ 512) × SetsIn file before_table w n (behind_places same_set (behind (automaton_of file) 256) sets rs))
