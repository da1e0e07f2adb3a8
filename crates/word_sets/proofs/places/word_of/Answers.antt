-- `word_sets::places::word_of` meets its contract: a shift by 6 is the quotient by 2 to the power 6.
use mathlib.Core.Path.{refl}
use Rattle.word_sets.proofs.places.word_of.Goals as goal

pub returns : goal.returns
returns c = refl
