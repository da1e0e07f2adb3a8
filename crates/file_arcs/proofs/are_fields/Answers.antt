-- Whether four bytes begin an arc: the test itself, of the bytes that were read.
use mathlib.Core.Bool.{Bool, ◌&&◌, ◌||◌}
use Prim.Native.Nat.{ℕ}
use lib.Dec.{eqb, leb, ltb}
use Rattle.file_fields.specs.declared.Counts.{Counts}
use Rattle.file_fields.proofs.Laws.{itself}
use Rattle.file_arcs.proofs.are_fields.Goals as goal

-- the four tests, of the bytes themselves
abbrev test : Counts → (from letter to p : ℕ) → Bool
test c from letter to p = ltb from c.states && (eqb letter 255 || ltb letter c.letters) && ltb to c.states && (leb 1 p && leb p 8)

pub returns : goal.returns
returns c = rw (← c.byte-letter.ensures.0, ← c.byte-operations.ensures.0, ← c.byte.ensures.0, ← c.byte-2.ensures.0)
    (itself (test c.args.c c.byte.result c.byte-letter.result c.byte-2.result c.byte-operations.result))
