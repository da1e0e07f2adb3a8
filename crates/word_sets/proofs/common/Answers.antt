-- `word_sets::common` meets its contract: word by word, the digits of both.
use Rattle.word_sets.proofs.SetLaws.{four, common_set}
use Rattle.word_sets.proofs.common.Goals as goal

pub returns : goal.returns
returns c = common_set c.args.a c.args.b (four c.args.a _ c.well_formed.0).long (four c.args.b _ c.well_formed.1.0).long
