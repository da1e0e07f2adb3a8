-- Letters: the number of the letter that a byte stands for, as code answers it (automata's specs/Words.antt says which it is).
use Rattle.std.specs.Prelude.{List, ℕ, Option, Some, None}
use Rattle.std.proofs.Math.Option as math
use Rattle.automata.specs.Words.{letter_with}

-- a number, or none
abbrev pub letter_told : math.Option ℕ → Option ℕ
letter_told math.none = None
letter_told (math.some k) = Some k

-- the number of the letter that the byte stands for
abbrev pub letter_number : (alphabet : List ℕ) (byte : ℕ) → Option ℕ
letter_number alphabet byte = letter_told (letter_with alphabet byte)
