-- `word_sets::meets` meets its contract: a digit of a word of both sets is a member of both.
use Rattle.word_sets.proofs.SetLaws.{four, meets-set}
use Rattle.word_sets.proofs.meets.Goals as goal

pub returns : goal.returns
returns c = meets-set c.args.a c.args.b (four c.args.a _ c.well_formed.0) (four c.args.b _ c.well_formed.1.0)
