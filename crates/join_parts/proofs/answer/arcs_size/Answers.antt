-- `join_parts::answer::arcs_size` meets its contract.
use native.Mathlib.Omega.{arith}
use Rattle.file_laws.proofs.Laws.{file-seen, valid-longest, valid-ranges}
use Rattle.join_parts.proofs.ArcLengths.{arcs-length}
use Rattle.join_parts.proofs.answer.arcs_size.Goals as goal

pub first_arc-requires : goal.first_arc-requires
first_arc-requires c = let r = valid-ranges _ _ c.requires in
    (r.letters, omega (arith, r.states))

pub overflow_sub-result : goal.overflow_sub-result
overflow_sub-result c = omega (arith, (file-seen _ _ c.requires).there)

pub returns : goal.returns
returns c = (omega (arith, arcs-length _ _ c.requires), omega (arith, valid-longest _ _ c.requires))
