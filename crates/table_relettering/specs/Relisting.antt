-- Relisting: the listed plain arcs of a block, with the new numbers of their letters. Crates above take `Relisted` whole: what they need of
-- it is in proofs/Laws.antt.
use Rattle.std.specs.Prelude.{◌≡◌, List, ℕ, ◌<◌}
use Rattle.relettering.specs.Relettering.{letter_by}
use Rattle.word_layout.specs.Layout.{arcs_at, packed_arc, starts_at}
use Rattle.word_layout.specs.declared.Block.{Block}
use Rattle.word_fields.specs.Fields.{field}
use Rattle.word_fields.specs.Frame.{Kept}
use Rattle.table_sets.specs.Stepping.{plain_letter_at, target_at}

-- w' is w but that the arcs that the block lists have the new numbers of their letters
pub record Relisted (new w w' : List ℕ) (block : Block) : Type 0 where
  pub kept : Kept (arcs_at block.base) (starts_at block.base) w w'
  pub arcs : (k : ℕ) → k < block.plain → field w' (arcs_at block.base) k ≡ packed_arc (letter_by new (plain_letter_at w block.base k)) (target_at w block.base k)
