-- `join_parts::groups::write_moved_arc` meets its contract.
use Prim.Native.Nat.{◌+◌}
use native.Mathlib.Omega.{arith}
use lib.ListN.{length-drop, length-take}
use lib.Seq.{get_or-drop}
use Rattle.file_fields.proofs.Laws.{tail}
use Rattle.join_parts.proofs.ArcWalk.{arc-at}
use Rattle.join_parts.proofs.groups.write_moved_arc.Goals as goal

pub write_arc-requires : goal.write_arc-requires
write_arc-requires c = let e = arc-at c.args.file.now c.args.from in
    let size = get_or-drop c.args.from c.args.file.now 3 0 in (
      record {
        source = rw c.byte.ensures.0 (rw e at c.requires.1);
        letter = c.byte-2.ensures.1;
        target = rw c.byte-3.ensures.0 (rw e at c.requires.2);
      },
      c.byte-p.ensures.1,
      c.requires.3,
      simp (length-take, length-drop) (omega (arith, c.requires.0, c.byte-p.ensures.0)),
      omega (arith, c.requires.4, c.byte-p.ensures.0),
      rw (tail c.args.file.now (c.args.from + 4), c.byte-p.ensures.0) c.requires.5,
    )

pub returns : goal.returns
returns c = let e = arc-at c.args.file.now c.args.from in
    rw (e, ← c.byte.ensures.0, ← c.byte-2.ensures.0, ← c.byte-3.ensures.0, ← c.byte-p.ensures.0) (rw (tail c.args.file.now (c.args.from + 4)) at c.write_arc.ensures)
