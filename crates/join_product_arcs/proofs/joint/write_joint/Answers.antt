-- `join_product_arcs::joint::write_joint` meets its contract.
use Prim.Native.Nat.{◌+◌, ◌*◌, ◌<◌}
use native.Mathlib.Omega.{arith}
use lib.ListN.{drop, length-take, length-drop}
use lib.Seq.{get_or-drop}
use Rattle.automata.specs.Joins.{arc_both}
use Rattle.format.specs.Decoding.{arc_of}
use Rattle.file_fields.proofs.Laws.{tail}
use Rattle.file_arc_writing.proofs.Laws.{arc-length}
use Rattle.join_parts.proofs.Laws.{arc-at}
use Rattle.join_product_count.proofs.Laws.{joint_ops, ops-at, source-at, target_at_lem}
use Rattle.join_product_arcs.proofs.joint.write_joint.Goals as goal
use Rattle.join_product_arcs.proofs.joint.write_joint.Goals.{After-byte, After-byte-2, After-byte-4, After-byte-5}

-- its states are bytes
source-product : (c : goal.After-byte) → c.byte.result * c.args.n + (arc_of (drop c.args.other c.args.second.now)).source < 256
source-product c = rw (c.byte.ensures.0, ← source-at c.args.first.now c.args.from) c.requires.0.source

source-small : (c : goal.After-byte-2) → c.byte.result * c.args.n + c.byte-2.result < 256
source-small c = let source-product' : c.byte.result * c.args.n + (arc_of (drop c.args.other c.args.second.now)).source < 256 = rw (c.byte.ensures.0, ← source-at c.args.first.now c.args.from) c.requires.0.source in
    rw (c.byte-2.ensures.0, ← source-at c.args.second.now c.args.other) (source-product')

target-product : (c : goal.After-byte-4) → c.byte-4.result * c.args.n + (arc_of (drop c.args.other c.args.second.now)).target < 256
target-product c = rw (c.byte-4.ensures.0, ← target_at_lem c.args.first.now c.args.from) c.requires.0.target

target_small : (c : goal.After-byte-5) → c.byte-4.result * c.args.n + c.byte-5.result < 256
target_small c = let target-product' : c.byte-4.result * c.args.n + (arc_of (drop c.args.other c.args.second.now)).target < 256 = rw (c.byte-4.ensures.0, ← target_at_lem c.args.first.now c.args.from) c.requires.0.target in
    rw (c.byte-5.ensures.0, ← target_at_lem c.args.second.now c.args.other) (target-product')

pub overflow_mul-f : goal.overflow_mul-f
overflow_mul-f c = omega (arith, source-product c)

pub overflow_add-f : goal.overflow_add-f
overflow_add-f c = omega (arith, source-small c)

pub overflow_mul-f-2 : goal.overflow_mul-f-2
overflow_mul-f-2 c = omega (arith, target-product c)

pub overflow_add-f-2 : goal.overflow_add-f-2
overflow_add-f-2 c = omega (arith, target_small c)

pub returns : goal.returns
returns c = rw (arc-at c.args.first.now c.args.from, arc-at c.args.second.now c.args.other, ← c.byte.ensures.0, ← c.byte-2.ensures.0, ← c.byte-3.ensures.0, ← c.byte-4.ensures.0, ← c.byte-5.ensures.0, ← c.byte-p.ensures.0, ← c.byte-q.ensures.0)
    (rw (tail c.args.first.now (c.args.from + 4), tail c.args.second.now (c.args.other + 4)) at c.write_joint_arc.ensures)

pub write_joint_arc-requires : goal.write_joint_arc-requires
write_joint_arc-requires c = let x = arc_of (drop c.args.from c.args.first.now) in
    let y = arc_of (drop c.args.other c.args.second.now) in
    let left = get_or-drop c.args.from c.args.first.now 3 0 in
    let right = get_or-drop c.args.other c.args.second.now 3 0 in
    let u = ops-at c.args.first.now c.args.from in
    let v = ops-at c.args.second.now c.args.other in (
      record { source = source-small (goal.at.write_joint_arc-requires c).After-byte-2; letter = c.byte-3.ensures.1; target = target_small (goal.at.write_joint_arc-requires c).After-byte-5 },
      omega (arith, c.requires.0.ops, c.byte-p.ensures.0, c.byte-q.ensures.0),
      c.requires.0.shift,
      simp (length-take, length-drop) (omega (arith, c.requires.0.first, c.byte-p.ensures.0)),
      simp (length-take, length-drop) (omega (arith, c.requires.0.second, c.byte-q.ensures.0)),
      omega (arith, c.requires.1, c.byte-p.ensures.0, c.byte-q.ensures.0, arc-length (arc_both c.args.n c.args.k x y), joint_ops c.args.n c.args.k x y),
      rw (tail c.args.first.now (c.args.from + 4), c.byte-p.ensures.0) c.requires.0.first_kinds,
      rw (tail c.args.second.now (c.args.other + 4), c.byte-q.ensures.0) c.requires.0.second_kinds,
    )
