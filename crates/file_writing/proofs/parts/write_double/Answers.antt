-- `file_writing::parts::write_double` meets its contract.
use mathlib.Core.List.{[], ◌∷◌}
use Prim.Native.Nat.{◌/◌, ◌%◌}
use native.Mathlib.Numerals.{add-one}
use native.Mathlib.Omega.{arith}
use lib.ListN.{length-set}
use Rattle.file_writing.proofs.Placed.{stored}
use Rattle.file_writing.proofs.parts.write_double.Goals as goal

pub bounds-out-at-2 : goal.bounds-out-at-2
bounds-out-at-2 c = simp length-set (omega arith)

pub returns : goal.returns
returns c = rw add-one (stored ((c.args.number % 256) ∷ (c.args.number / 256) ∷ []) c.args.out.now c.args.at c.requires.1)
