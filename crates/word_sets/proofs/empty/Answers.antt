-- `word_sets::empty` meets its contract.
use Rattle.word_sets.proofs.SetLaws.{empty-set}
use Rattle.word_sets.proofs.empty.Goals as goal

pub returns : goal.returns
returns c = empty-set
