-- `word_sets::places::digit_of` meets its contract: the mask of the six lowest digits leaves the remainder.
use lib.Bits.{and_mask}
use Rattle.word_sets.proofs.places.digit_of.Goals as goal

pub returns : goal.returns
returns c = and_mask c.args.k 6
