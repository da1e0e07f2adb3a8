-- `table_list_steps::start_set` meets its contract: the first row of a block that tells plain arcs is the live set of the empty word.
use Rattle.table_sets.proofs.Laws.{tells-start}
use Rattle.table_list_steps.proofs.start_set.Goals as goal

pub returns : goal.returns
returns c = λ letters arcs t. rw c.load.ensures (tells-start t)
