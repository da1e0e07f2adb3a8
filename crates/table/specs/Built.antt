-- Built: a block whose rows are closed, and the configurations in the words, said of any automaton (document 01, 'Runs and slips' and 'Unfolding').
use Rattle.std.specs.Prelude.{◌≡◌, List, map, ◌≤◌, ℕ, drop, length, take}
use Rattle.automata.specs.Automaton.{Automaton, letters}
use Rattle.automata.specs.Unfolding.{configurations, plain_arcs}
use Rattle.word_layout.specs.Layout.{configs}
use Rattle.word_layout.specs.declared.Block.{Block}
use Rattle.table_operations.specs.Packed.{pack}
use Rattle.table_sets.specs.Stepping.{Tells}

-- the block has the configurations of x, at most L, and tells its plain arcs
pub record Built (x : Automaton) (L : ℕ) (w : List ℕ) (block : Block) : Type 0 where
  pub many : block.count ≡ length (configurations x L)
  pub ended : block.count ≤ L
  pub tells : Tells (letters x) (plain_arcs x L) w block

-- the `count` configurations of x stand in the words, in the order of their numbers; they do until another automaton is built
abbrev pub Stored : Automaton → ℕ → List ℕ → ℕ → Type 0
Stored x L w count = take count (drop configs w) ≡ map pack (configurations x L)
