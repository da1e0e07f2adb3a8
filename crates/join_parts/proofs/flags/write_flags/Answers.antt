-- `join_parts::flags::write_flags` meets its contract.
use native.Mathlib.Omega.{arith}
use Rattle.file_laws.proofs.Laws.{file-seen, valid-ranges}
use Rattle.join_parts.proofs.FinalFlags.{lent_flags, valid-flags}
use Rattle.join_parts.proofs.flags.write_flags.Goals as goal

pub flags_at-flags-requires : goal.flags_at-flags-requires
flags_at-flags-requires c = (valid-ranges _ _ c.requires.0).letters

pub overflow_add-end : goal.overflow_add-end
overflow_add-end c = let r = valid-ranges _ _ c.requires.0 in
    omega (arith, r.letters, r.states)

pub slice_bounds-write_copy-end : goal.slice_bounds-write_copy-end
slice_bounds-write_copy-end c = omega (arith, (file-seen _ _ c.requires.0).there)

pub returns : goal.returns
returns c = rw (valid-flags _ _ c.requires.0, ← lent_flags c.args.c c.args.file.now, ← c.flags_at-flags.ensures) c.write_copy.ensures
