-- `word_sets::is_empty` meets its contract: no word has a digit 1.
use Rattle.word_sets.proofs.SetLaws.{four, none-set}
use Rattle.word_sets.proofs.is_empty.Goals as goal

pub returns : goal.returns
returns c = none-set c.args.set (four c.args.set _ c.well_formed.0)
