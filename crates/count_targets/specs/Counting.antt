-- Counting: what the words hold while words are counted: the automaton of a valid file, built, and its live sets, numbered in the order in
-- which they are met (crate automata, specs/LiveSets.antt).
use Rattle.std.specs.Prelude.{◌≡◌, Bool, List, [], ℕ, ◌+◌, ◌*◌, ◌≤◌, ◌<◌, get_or, length}
use Rattle.automata.specs.LiveSets.{behind, live_sets}
use Rattle.automata.specs.Unfolding.{live_set, plain_arcs}
use Rattle.file_fields.specs.declared.Counts.{Counts}
use Rattle.format.specs.Decoding.{automaton_of}
use Rattle.word_layout.specs.Layout.{only_block, set_table}
use Rattle.word_layout.specs.declared.Block.{Block}
use Rattle.table.specs.Standing.{Stands}
use Rattle.live_letters.specs.Meeting.{Table}
use Rattle.live_search.specs.Exploring.{Sets}
use Rattle.count_sums.specs.Sums.{target_at}

-- the live sets of the automaton in a file, in number order
unfoldable pub sets_of : (file : List ℕ) → List (List Bool)
unfolding live_sets live_set
sets_of file = live_sets (automaton_of file) 256 (live_set (automaton_of file) 256 []) 512

-- the live set with number i
unfoldable pub set_numbered : (file : List ℕ) (i : ℕ) → List Bool
unfolding sets_of
set_numbered file i = get_or (sets_of file) i []

-- the automaton of the file is built, and the n rows of the table are its live sets
pub record Counting (file : List ℕ) (c : Counts) (w : List ℕ) (block : Block) (n : ℕ) : Type 0 where
  pub stands : Stands file c w block
  pub only : block.base ≡ only_block
  pub enough : 8192 ≤ length w
  pub rows : Table c.letters set_table w n
  pub sets : Sets block.count (plain_arcs (automaton_of file) 256) set_table w n (sets_of file)

-- slot `slot` has the numbers of the sets that the a letters lead to from set i, among the first n
pub record Noted (file : List ℕ) (n a : ℕ) (w : List ℕ) (i slot : ℕ) : Type 0 where
  pub low : (l : ℕ) → l < a → target_at w (slot * a + l) < n
  pub leads : (l : ℕ) → l < a → set_numbered file (target_at w (slot * a + l)) ≡ behind (automaton_of file) 256 (set_numbered file i) l
