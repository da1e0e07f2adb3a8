-- `join_intersection::finals::write_both_flags` meets its contract.
use mathlib.Core.Path.{◌≡◌, ◌∙◌, ap, sym}
use mathlib.Core.List.{List}
use Prim.Native.Nat.{ℕ}
use native.Mathlib.Omega.{arith}
use lib.ListN.{length}
use Rattle.file_fields.specs.Parts.{flag_bytes}
use Rattle.file_fields.specs.declared.Counts.{Counts}
use Rattle.std.specs.Prelude.{Ok}
use Rattle.format.specs.Reading.{reading_of}
use Rattle.file_laws.proofs.Laws.{file-seen, valid-ranges}
use Rattle.join_parts.proofs.Laws.{lent_finals, lent_flags, valid-flags, valid-lengths}
use Rattle.join_intersection.proofs.finals.write_both_flags.Goals as goal

-- there are as many flags as states
flag_count : (s : List ℕ) (a : Counts) → reading_of s ≡ Ok a → length (flag_bytes a s) ≡ a.states
flag_count s a h = ap length (sym (valid-flags s a h)) ∙ (valid-lengths s a h).2

pub flags_at-flags-requires : goal.flags_at-flags-requires
flags_at-flags-requires c = (valid-ranges _ _ c.requires.0).letters

pub overflow_add-end : goal.overflow_add-end
overflow_add-end c = let r = valid-ranges _ _ c.requires.0 in
    omega (arith, r.letters, r.states)

pub slice_bounds-write_rows-end : goal.slice_bounds-write_rows-end
slice_bounds-write_rows-end c = omega (arith, (file-seen _ _ c.requires.0).there)

pub write_rows-requires : goal.write_rows-requires
write_rows-requires c = (c.requires.1, rw (c.flags_at-flags.ensures, lent_flags c.args.a c.args.first.now, flag_count _ _ c.requires.0) c.requires.2)

pub returns : goal.returns
returns c = rw (lent_finals _ _ c.requires.0, ← c.flags_at-flags.ensures) c.write_rows.ensures
