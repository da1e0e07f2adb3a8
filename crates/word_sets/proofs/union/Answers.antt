-- `word_sets::union` meets its contract: word by word, the digits of either.
use Rattle.word_sets.proofs.SetLaws.{four, union-set}
use Rattle.word_sets.proofs.union.Goals as goal

pub returns : goal.returns
returns c = union-set c.args.a c.args.b (four c.args.a _ c.well_formed.0).long (four c.args.b _ c.well_formed.1.0).long
