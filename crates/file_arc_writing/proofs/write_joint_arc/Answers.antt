-- `file_arc_writing::write_joint_arc` meets its contract.
use mathlib.Core.Path.{◌≡◌, ap, ap₂, ◌∙◌}
use mathlib.Core.List.{◌++◌, map}
use Prim.Native.Nat.{ℕ, ◌+◌, ◌*◌}
use native.Mathlib.Omega.{arith}
use lib.ListN.{length, length-append}
use Rattle.automata.specs.Joins.{moved_op}
use Rattle.format.specs.Decoding.{ops_of}
use Rattle.format.specs.Encoding.{ops_bytes}
use Rattle.file_laws.proofs.Laws.{ops-count, ops-length}
use Rattle.file_writing.proofs.Laws.{then_tail}
use Rattle.file_arc_writing.proofs.ArcBytes.{ops-unmoved, moved-ops-count, moved-ops-length, ops_append, arc-written}
use borrow.Author.Rules.{rules}
use Rattle.file_arc_writing.proofs.write_joint_arc.Goals as goal

pub write_ops-requires-2 : goal.write_ops-requires-2
write_ops-requires-2 c = (search rules, search rules, search rules, c.requires.7)

pub returns : goal.returns
returns c = let l = ops_of c.args.p c.args.left.now in
    let r = map (moved_op c.args.k) (ops_of c.args.q c.args.right.now) in
    let unmoved = ops-unmoved l in
    let lefts : length (ops_bytes l) ≡ 2 * c.args.p = ops-length l ∙ ap (λ (n : ℕ). 2 * n) (ops-count c.args.p c.args.left.now) in
    let rights = moved-ops-length c.args.k c.args.q c.args.right.now in
    let from = c.args.at + 4 + 2 * c.args.p in
    let e : from + 2 * c.args.q ≡ from + length (ops_bytes r) = omega arith in
    let count : length (l ++ r) ≡ c.args.p + c.args.q = length-append l r ∙ ap₂ (λ (m n : ℕ). m + n) (ops-count c.args.p c.args.left.now) (moved-ops-count c.args.k c.args.q c.args.right.now) in
    let one = then_tail (ops_bytes l) c.write_ops.new.out (c.args.at + 4) c.write_fields.ensures (omega (arith, c.requires.5)) c.write_fields.ensures.behind (rw unmoved at c.write_ops.ensures) in
    let two = then_tail (ops_bytes r) c.write_ops-2.new.out from one (omega (arith, c.requires.5, length-append (ops_bytes l) (ops_bytes r))) (omega arith) c.write_ops-2.ensures in
    rw e (arc-written c.args.f (l ++ r) count (ops_append l r) two)
