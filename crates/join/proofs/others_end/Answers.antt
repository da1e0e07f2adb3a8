-- `join::others_end` meets its contract.
use native.Mathlib.Omega.{arith}
use Rattle.join.proofs.others_end.Goals as goal

pub returns : goal.returns
returns c = record { end = rw c.if-agree.false c.flags_at.ensures; inside = (omega (arith, c.flags_at.ensures), omega (arith, c.flags_at.ensures)) }
