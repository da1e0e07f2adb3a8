-- FileSteps: where a letter leads from a configuration, said of the arcs in the file. It is for automata whose plain arcs are too
-- many to be listed: an arc is performed again, and the configuration that it leads to is looked up.
use Rattle.std.specs.Prelude.{◌≡◌, ℕ, ◌+◌, ◌<◌, T, drop, get_or}
use mathlib.Core.List.{List, Memᴰ}
use Rattle.std.proofs.Math.Option.{some}
use Rattle.word_layout.specs.Layout.{configs}
use Rattle.word_layout.specs.declared.Block.{Block}
use Rattle.table_operations.specs.Packed.{Hop, hops}
use Rattle.table_configurations.specs.Tables.{Configured}
use Rattle.file_fields.specs.Parts.{first_arc}
use Rattle.file_fields.specs.declared.Counts.{Counts}
use Rattle.word_rows.specs.Rows.{related}

-- one of these passing arcs has letter l, and the row of the configuration that it leads to, one of those of the block, has j
pub record Led (w : List ℕ) (block : Block) (hs : List Hop) (l j : ℕ) : Type 0 where
  pub hop : Hop
  pub among : Memᴰ hop hs
  pub letter : hop.letter ≡ some l
  pub to : ℕ
  pub few : to < block.count
  pub is : get_or w (configs + to) 0 ≡ hop.to
  pub leads : T (related w block.base to j)

-- the arcs of the file that pass from configuration s, with letter l, lead to j
abbrev pub FromFile : List ℕ → Counts → List ℕ → Block → (s l j : ℕ) → Type 0
FromFile file c w block s l j = Led w block (hops c.arcs (drop (first_arc c) file) (get_or w (configs + s) 0)) l j

-- each of the `count` configurations can be found, in one place
pub record Findable (w : List ℕ) (count : ℕ) : Type 0 where
  pub configured : Configured w count
  pub apart : (i t : ℕ) → i < count → t < count → get_or w (configs + i) 0 ≡ get_or w (configs + t) 0 → i ≡ t
