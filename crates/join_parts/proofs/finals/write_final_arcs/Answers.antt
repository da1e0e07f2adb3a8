-- `join_parts::finals::write_final_arcs` meets its contract.
use native.Mathlib.Omega.{arith}
use lib.ListN.{length-drop, length-take}
use Rattle.file_laws.proofs.Laws.{file-seen, valid-ranges}
use Rattle.join_parts.proofs.FinalFlags.{lent_finals}
use Rattle.join_parts.proofs.finals.write_final_arcs.Goals as goal

pub flags_at-flags-requires : goal.flags_at-flags-requires
flags_at-flags-requires c = (valid-ranges _ _ c.requires.0).letters

pub overflow_add-end : goal.overflow_add-end
overflow_add-end c = let r = valid-ranges _ _ c.requires.0 in
    omega (arith, r.letters, r.states)

pub slice_bounds-write_returns-end : goal.slice_bounds-write_returns-end
slice_bounds-write_returns-end c = omega (arith, (file-seen _ _ c.requires.0).there)

pub write_returns-requires : goal.write_returns-requires
write_returns-requires c = (simp (length-take, length-drop) (omega (arith, c.requires.1)), c.requires.2, c.requires.3, rw (lent_finals _ _ c.requires.0, ← c.flags_at-flags.ensures) at c.requires.4)

pub returns : goal.returns
returns c = rw (lent_finals _ _ c.requires.0, ← c.flags_at-flags.ensures) c.write_returns.ensures
