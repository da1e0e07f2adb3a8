use mathlib.Core.Path.{◌≡◌}
use mathlib.Core.List.{◌∷◌, map}
use Prim.Native.Nat.{◌+◌, ◌-◌, ◌*◌}
use native.Mathlib.Omega.{arith}
use lib.ListN.{get_or, drop}
use Rattle.automata.specs.Joins.{moved_op}
use Rattle.format.specs.Decoding.{ops_of}
use Rattle.format.specs.Encoding.{ops_bytes}
use Rattle.file_writing.proofs.Laws.{left-all, left_at, left-byte, left-none}
use Rattle.file_arc_writing.proofs.ArcBytes.{moved-ops-at, moved-ops-end, moved-ops-length}
use Rattle.file_arc_writing.proofs.write_ops.Goals as goal

pub loop-i-init : goal.loop-i-init
loop-i-init c = let e : c.args.p - 0 ≡ c.args.p = omega arith in
    rw e (left-all (omega (arith, c.requires.2, moved-ops-length c.args.k c.args.p c.args.ops.now)))

pub moved_operation-first-requires : goal.moved_operation-first-requires
moved_operation-first-requires c = (rw c.byte.ensures.0 (c.requires.3 c.loop-i.i (omega arith)), c.requires.0)

pub loop-i-preserved : goal.loop-i-preserved
loop-i-preserved c = let y = get_or c.args.ops.now (2 * c.loop-i.i + 1) 0 in
    let rest = ops_bytes (map (moved_op c.args.k) (ops_of (c.args.p - (c.loop-i.i + 1)) (drop (2 * (c.loop-i.i + 1)) c.args.ops.now))) in
    let e : 2 * (c.loop-i.i + 1) ≡ 2 * c.loop-i.i + 1 + 1 = omega arith in
    let now = rw (moved-ops-at c.args.k c.args.p c.loop-i.i c.args.ops.now (omega arith) c.moved_operation-first.result (rw (← c.byte.ensures.0) c.moved_operation-first.ensures.0)) at c.loop-i.invariant in
    left_at e (left-byte y rest (left-byte c.moved_operation-first.result (y ∷ rest) now))

pub returns : goal.returns
returns c = (left-none (rw (moved-ops-end c.args.k c.args.p c.loop-i.i c.args.ops.now (omega arith)) at c.loop-i.invariant)).output
