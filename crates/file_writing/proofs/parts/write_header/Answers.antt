-- `file_writing::parts::write_header` meets its contract.
use Rattle.format.specs.Encoding.{header_bytes}
use Rattle.file_writing.proofs.Placed.{Appended-length, written_then}
use native.Mathlib.Omega.{arith}
use Rattle.file_writing.proofs.parts.write_header.Goals as goal

pub write_double-requires : goal.write_double-requires
write_double-requires c = let front = written_then c.write_mark-letters.ensures
    (written_then c.write_byte-states.ensures
    (written_then c.write_double-registers.ensures
    (written_then c.write_byte-symbols.ensures
    c.write_byte-arcs.ensures))) in
    (omega (arith, c.requires.0.arcs), omega (arith, c.requires.1, front.behind, Appended-length front))

pub returns : goal.returns
unfolding header_bytes
returns c = written_then c.write_mark-letters.ensures
    (written_then c.write_byte-states.ensures
    (written_then c.write_double-registers.ensures
    (written_then c.write_byte-symbols.ensures
    (written_then c.write_byte-arcs.ensures
    c.write_double.ensures))))
