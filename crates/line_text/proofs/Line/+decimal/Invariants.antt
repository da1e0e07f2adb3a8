-- The measure is the number.
use Rattle.line_text.proofs.Line.+decimal.Given as goal

abbrev pub decreases-decimal : goal.decreases-decimal
decreases-decimal l = l.n
