-- `table::face::plain_arc` meets its contract: the listed arc is the definition's.
use Rattle.format.specs.Decoding.{letter_of}
use Rattle.table.specs.Face.{plain_at}
use mathlib.Core.Path.{sym}
use Rattle.table.proofs.face.plain_arc.Goals as goal

pub returns : goal.returns
unfolding plain_at
returns c = let e = sym c.listed_arc.ensures.letter.0 in
    let f = sym c.listed_arc.ensures.target.0 in record { small = (c.listed_arc.ensures.letter.1, c.listed_arc.ensures.target.1); arc = λ s i. record { source = s; letter = letter_of (e i); target = f i } }
