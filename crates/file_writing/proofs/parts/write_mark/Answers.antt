-- `file_writing::parts::write_mark` meets its contract.
use mathlib.Core.List.{[], ◌∷◌}
use native.Mathlib.Numerals.{add-one, add-two, add-three, add-four}
use native.Mathlib.Omega.{arith}
use lib.ListN.{length-set}
use Rattle.file_writing.proofs.Placed.{stored}
use Rattle.file_writing.proofs.parts.write_mark.Goals as goal

pub bounds-out-at-2 : goal.bounds-out-at-2
bounds-out-at-2 c = simp length-set (omega arith)

pub bounds-out-at-3 : goal.bounds-out-at-3
bounds-out-at-3 c = simp length-set (omega arith)

pub bounds-out-at-4 : goal.bounds-out-at-4
bounds-out-at-4 c = simp length-set (omega arith)

pub bounds-out-at-5 : goal.bounds-out-at-5
bounds-out-at-5 c = simp length-set (omega arith)

pub returns : goal.returns
returns c = rw (add-one, add-two, add-three, add-four) (stored (0x4D ∷ 0x4C ∷ 0x42 ∷ 1 ∷ 0 ∷ []) c.args.out.now c.args.at c.requires)
