-- Pruning: what is left of a block's list once the arcs that add nothing to a step are dropped.
use Rattle.std.specs.Prelude.{◌≡◌, ◌⊎◌, List, ℕ, ◌<◌, T}
use Rattle.word_rows.specs.Rows.{related}
use Rattle.table_sets.specs.Stepping.{FromList}

-- one of the first c configurations, s itself or one in its row, is listed to lead by letter l to j
pub record Covered (w : List ℕ) (base c plain s l j : ℕ) : Type 0 where
  pub source : ℕ
  pub below : source < c
  pub near : (source ≡ s) ⊎ T (related w base s source)
  pub leads : FromList w base c plain source l j
