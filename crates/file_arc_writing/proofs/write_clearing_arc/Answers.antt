-- `file_arc_writing::write_clearing_arc` meets its contract.
use mathlib.Core.Path.{◌≡◌, refl, ap, ◌∙◌}
use Prim.Native.Nat.{◌+◌, ◌-◌, ◌*◌}
use native.Mathlib.Omega.{arith}
use lib.ListN.{length, length-take, length-drop}
use Rattle.format.specs.Encoding.{ops_bytes}
use Rattle.file_writing.proofs.Laws.{Appended-length, then_tail}
use Rattle.file_arc_writing.proofs.ArcBytes.{cleared, cleared-count, cleared-length, clearing-few, clearing-more, arc-written}
use Rattle.file_arc_writing.proofs.write_clearing_arc.Goals as goal

pub write_plain_arc-requires : goal.write_plain_arc-requires
write_plain_arc-requires c = let e = ap length (clearing-few c.args.n (omega arith)) in
    (c.requires.0, omega (arith, c.requires.2))

pub returns-then-n-lt2 : goal.returns-then-n-lt2
returns-then-n-lt2 c = rw (clearing-few c.args.n (omega arith)) c.write_plain_arc.ensures

pub write_clearing-requires : goal.write_clearing-requires
write_clearing-requires c = let e = ap length (clearing-more c.args.n (omega arith)) ∙ cleared-count 1 (c.args.n - 1) in
    (omega (arith, c.requires.1), simp (length-take, length-drop) (omega (arith, c.requires.2, Appended-length c.write_fields.ensures)))

pub returns : goal.returns
returns c = let p = c.args.n - 1 in
    let more = clearing-more c.args.n (omega arith) in
    let count = ap length more ∙ cleared-count 1 p in
    let size = cleared-length p in
    let e : c.args.at + 4 + 2 * p ≡ c.args.at + 4 + length (ops_bytes (cleared 1 p)) = omega arith in
    let both = then_tail (ops_bytes (cleared 1 p)) c.write_clearing.new.out (c.args.at + 4) c.write_fields.ensures (omega (arith, c.requires.2)) c.write_fields.ensures.behind c.write_clearing.ensures in
    rw (more, e) (arc-written c.args.f (cleared 1 p) (cleared-count 1 p) refl both)
