-- `word_sets::has` meets its contract: one digit of one word tells.
use Rattle.word_sets.proofs.SetLaws.{has-set}
use Rattle.word_sets.proofs.has.Goals as goal

pub returns : goal.returns
returns c = rw (c.word_of.ensures, c.mask_of.ensures) (has-set c.args.set c.args.k)
