-- `join_product_arcs::beside::write_beside` meets its contract.
use Prim.Native.Nat.{◌+◌, ◌*◌, ◌<◌}
use native.Mathlib.Omega.{arith}
use lib.ListN.{length-take, length-drop}
use lib.Seq.{get_or-drop}
use Rattle.format.specs.Decoding.{letter_of}
use Rattle.file_fields.proofs.Laws.{tail}
use Rattle.join_parts.proofs.Laws.{arc-at}
use Rattle.join_product_count.proofs.Laws.{source-at, target_at_lem}
use Rattle.join_product_arcs.proofs.beside.write_beside.Goals as goal
use Rattle.join_product_arcs.proofs.beside.write_beside.Goals.{After-byte, After-byte-2}

-- its states are bytes
source-small : (c : goal.After-byte) → c.byte.result * c.args.b.scale + c.args.i * c.args.b.step < 256
source-small c = rw (c.byte.ensures.0, ← source-at c.args.file.now c.args.from) c.requires.1

target_small : (c : goal.After-byte-2) → c.byte-2.result * c.args.b.scale + c.args.i * c.args.b.step < 256
target_small c = rw (c.byte-2.ensures.0, ← target_at_lem c.args.file.now c.args.from) c.requires.2

pub overflow_mul-f : goal.overflow_mul-f
overflow_mul-f c = omega (arith, source-small (goal.at.overflow_mul-f c).After-byte)

pub overflow_add-f : goal.overflow_add-f
overflow_add-f c = omega (arith, source-small (goal.at.overflow_add-f c).After-byte)

pub overflow_mul-f-3 : goal.overflow_mul-f-3
overflow_mul-f-3 c = omega (arith, target_small (goal.at.overflow_mul-f-3 c).After-byte-2)

pub overflow_add-f-2 : goal.overflow_add-f-2
overflow_add-f-2 c = omega (arith, target_small (goal.at.overflow_add-f-2 c).After-byte-2)

pub write_arc-requires : goal.write_arc-requires
write_arc-requires c = let size = get_or-drop c.args.from c.args.file.now 3 0 in (
  record { source = source-small (goal.at.write_arc-requires c).After-byte; letter = omega arith; target = target_small (goal.at.write_arc-requires c).After-byte-2 },
  c.byte-p.ensures.1,
  c.requires.3,
  simp (length-take, length-drop) (omega (arith, c.requires.0, c.byte-p.ensures.0)),
  omega (arith, c.requires.4, c.byte-p.ensures.0),
  rw (tail c.args.file.now (c.args.from + 4), c.byte-p.ensures.0) c.requires.5,
)

pub returns : goal.returns
unfolding letter_of
returns c = rw (arc-at c.args.file.now c.args.from, ← c.byte.ensures.0, ← c.byte-2.ensures.0, ← c.byte-p.ensures.0) (rw (tail c.args.file.now (c.args.from + 4)) at c.write_arc.ensures)
