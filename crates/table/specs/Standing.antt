-- Standing: the configurations of a valid file's automaton in the words, and its block once its rows are closed. Crates above take both
-- whole: what they need of them is in proofs/Laws.antt.
use Rattle.std.specs.Prelude.{◌≡◌, List, ◌+◌, ◌≤◌, ℕ, length, Ok, Option, Some, None}
use Rattle.automata.specs.Unfolding.{configurations, plain_arcs}
use Rattle.file_fields.specs.declared.Counts.{Counts}
use Rattle.format.specs.Decoding.{automaton_of}
use Rattle.format.specs.Reading.{reading_of}
use Rattle.word_layout.specs.Layout.{Placed, configs}
use Rattle.word_layout.specs.declared.Block.{Block}
use Rattle.table_operations.specs.Arcs.{Indexed, Linked}
use Rattle.table_configurations.specs.declared.Sizes.{Sizes}
use Rattle.table_sets.specs.Stepping.{Tells}
use Rattle.table_file_steps.specs.FileSteps.{Findable}
use Rattle.table.specs.Built.{Built, Stored}

-- the file is valid and has the counts c, and the configurations of its automaton stand in the words, in the order of their numbers; they
-- do until another automaton is built
pub record Numbered (file : List ℕ) (c : Counts) (w : List ℕ) (count : ℕ) : Type 0 where
  pub valid : reading_of file ≡ Ok c
  pub few : count ≤ 256
  pub there : configs + count ≤ length w
  pub many : count ≡ length (configurations (automaton_of file) 256)
  pub stored : Stored (automaton_of file) 256 w count

-- the file is valid and has the counts c, and its automaton is built: the block tells its plain arcs, by rows that are closed and by a list
-- where they fit; and its configurations and the arcs of the file can be found, so that a step can be taken by the file
pub record Stands (file : List ℕ) (c : Counts) (w : List ℕ) (block : Block) : Type 0 where
  pub numbered : Numbered file c w block.count
  pub built : Built (automaton_of file) 256 w block
  pub placed : Placed w block.base
  pub indexed : Indexed c file w
  pub linked : Linked c file w
  pub findable : Findable w block.count

-- the automaton is built, and its block tells the plain arcs by every byte but that of the empty moves: no arc is listed with a byte that is
-- no letter's number
pub record Raised (file : List ℕ) (c : Counts) (w : List ℕ) (block : Block) : Type 0 where
  pub stands : Stands file c w block
  pub tells : Tells 255 (plain_arcs (automaton_of file) 256) w block

-- the block from the word `base` on, of what building answers
abbrev pub StandsBy : (file : List ℕ) (c : Counts) (w : List ℕ) (base : ℕ) → Option Sizes → Type 0
StandsBy file c w base None = Unit {0}
StandsBy file c w base (Some s) = Raised file c w (record { base = base; count = s.count; plain = s.plain })
