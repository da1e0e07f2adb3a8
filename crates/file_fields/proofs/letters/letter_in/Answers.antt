use mathlib.Core.Path.{ap, sym}
use native.Mathlib.Omega.{arith}
use Rattle.automata.specs.Letters.{key}
use Rattle.automata.proofs.Laws.{letter_at}
use Rattle.file_fields.specs.Letters.{letter_told}
use Rattle.file_fields.proofs.letters.letter_in.Goals as goal

pub returns-then-letter-byte : goal.returns-then-letter-byte
returns-then-letter-byte c = sym (ap letter_told (letter_at c.args.letters.now c.requires.1 c.args.byte c.loop-i.i (omega arith) (ap key c.if-letter-byte.true)))

pub letter_by_key-requires : goal.letter_by_key-requires
letter_by_key-requires c = c.requires.0

pub returns : goal.returns
returns c = c.letter_by_key.ensures
