-- `file_writing::front::write_front` meets its contract.
use native.Mathlib.Omega.{arith}
use Rattle.file_writing.proofs.Placed.{Appended-length, written_then}
use Rattle.file_writing.proofs.FileParts.{header-length}
use Rattle.file_writing.proofs.front.write_front.Goals as goal

pub write_copy-requires : goal.write_copy-requires
write_copy-requires c = omega (arith, c.write_header-at.ensures.behind, Appended-length c.write_header-at.ensures, header-length c.args.c, c.requires.1)

pub returns : goal.returns
returns c = written_then c.write_header-at.ensures c.write_copy.ensures
