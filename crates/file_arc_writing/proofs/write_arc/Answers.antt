-- `file_arc_writing::write_arc` meets its contract.
use mathlib.Core.Path.{◌≡◌, refl}
use mathlib.Core.List.{map}
use Prim.Native.Nat.{◌+◌, ◌*◌}
use native.Mathlib.Omega.{arith}
use lib.ListN.{length}
use Rattle.automata.specs.Joins.{moved_op}
use Rattle.format.specs.Decoding.{ops_of}
use Rattle.format.specs.Encoding.{ops_bytes}
use Rattle.file_writing.proofs.Laws.{then_tail}
use Rattle.file_arc_writing.proofs.ArcBytes.{moved-ops-count, moved-ops-length, arc-written}
use Rattle.file_arc_writing.proofs.write_arc.Goals as goal

pub returns : goal.returns
returns c = let os = map (moved_op c.args.k) (ops_of c.args.p c.args.ops.now) in
    let n = moved-ops-length c.args.k c.args.p c.args.ops.now in
    let e : c.args.at + 4 + 2 * c.args.p ≡ c.args.at + 4 + length (ops_bytes os) = omega arith in
    let both = then_tail (ops_bytes os) c.write_ops.new.out (c.args.at + 4) c.write_fields.ensures (omega (arith, c.requires.4)) c.write_fields.ensures.behind c.write_ops.ensures in
    rw e (arc-written c.args.f os (moved-ops-count c.args.k c.args.p c.args.ops.now) refl both)
