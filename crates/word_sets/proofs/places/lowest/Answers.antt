-- `word_sets::places::lowest` meets its contract: a word that is not 0 has as many trailing zeros as its lowest digit 1 is places up.
use native.Mathlib.Omega.{arith}
use lib.Count.{trailing_le}
use Rattle.word_sets.proofs.Bits.{trailing}
use Rattle.word_sets.proofs.places.lowest.Goals as goal

pub overflow_cast-result : goal.overflow_cast-result
overflow_cast-result c = omega (arith, trailing_le 64 c.args.x)

pub returns : goal.returns
returns c = let l = trailing 64 c.args.x c.well_formed.0.1 (λ e. omega arith) in (l.inside, l.one, l.none)
