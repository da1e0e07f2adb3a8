-- `word_sets::with` meets its contract: one digit of one word is set.
use native.Mathlib.Omega.{arith}
use Rattle.word_sets.proofs.SetLaws.{four, with_set}
use Rattle.word_sets.proofs.with.Goals as goal

pub returns : goal.returns
returns c = rw (c.word_of-q.ensures, c.mask_of.ensures) (with_set c.args.set c.args.k (omega (arith, (four c.args.set _ c.well_formed.0).long)))
