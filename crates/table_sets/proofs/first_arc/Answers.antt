-- `table_sets::first_arc` meets its contract: the field is the definition's.
use Rattle.table_sets.specs.Stepping.{start_at}
use Rattle.table_sets.proofs.first_arc.Goals as goal

pub returns : goal.returns
unfolding start_at
returns c = c.get16.ensures.0
