-- `file_arc_writing::write_plain_arc` meets its contract.
use mathlib.Core.Path.{◌≡◌, refl}
use Prim.Native.Nat.{◌+◌}
use native.Mathlib.Omega.{arith}
use lib.ListN.{length-drop, length-take}
use Rattle.automata.specs.Unfolding.{read_zero}
use Rattle.format.specs.Encoding.{ops_bytes}
use Rattle.file_writing.proofs.Laws.{Appended-length, then_tail}
use Rattle.file_arc_writing.proofs.ArcBytes.{arc-written}
use Rattle.file_arc_writing.proofs.write_plain_arc.Goals as goal

pub write_read-requires : goal.write_read-requires
write_read-requires c = simp (length-take, length-drop) (omega (arith, Appended-length c.write_fields.ensures))

pub returns : goal.returns
unfolding ops_bytes
returns c = let e : c.args.at + 6 ≡ c.args.at + 4 + 2 = omega arith in
    let both = then_tail (ops_bytes read_zero) c.write_read.new.out (c.args.at + 4) c.write_fields.ensures (omega (arith, c.requires.1)) c.write_fields.ensures.behind c.write_read.ensures in
    rw e (arc-written c.args.f read_zero refl refl both)
