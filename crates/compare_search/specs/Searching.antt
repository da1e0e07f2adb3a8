-- Searching: what exploring the pairs of two automata asks of the words. The automata stand in blocks (crate table_sets,
-- specs/Stepping.antt); both have a letters.
use Rattle.std.specs.Prelude.{◌≡◌, List, ℕ, ◌≤◌, length}
use Rattle.table_sets.specs.Stepping.{BySource, Tells}
use Rattle.word_layout.specs.Layout.{first_block, second_block}
use Rattle.word_layout.specs.declared.Block.{Block}
use Rattle.live_table.specs.Entries.{Side}

-- the words are there, and both blocks in their places, their arcs listed by source
pub record Ready (a : ℕ) (w : List ℕ) (one two : Block) : Type 0 where
  pub long : 8192 ≤ length w
  pub few : a ≤ 64
  pub first : one.base ≡ first_block
  pub second : two.base ≡ second_block
  pub listed₁ : BySource w one
  pub listed₂ : BySource w two

-- the blocks are those of the two sides
pub record Both (a : ℕ) (s t : Side) (w : List ℕ) (one two : Block) : Type 0 where
  pub size₁ : s.size ≡ one.count
  pub size₂ : t.size ≡ two.count
  pub tells₁ : Tells a s.arcs w one
  pub tells₂ : Tells a t.arcs w two
