-- Laws: the laws of this crate that crates above cite. A law that is not named here may change.
-- laws of writes at a place: two in a row are one, and what is left of a write after a part of it
pub use Rattle.file_writing.proofs.Placed.{Left, Appended-ends, Appended-length, left-all, left_at, left-byte, left-fits, left_less, left-none, stored, then_tail, written_then}
-- the parts of a file as writers meet them: header, letters, flags, arcs; and the output once a whole file is written
pub use Rattle.file_writing.proofs.FileParts.{arcs-append, bytes-from, file-written, front_ends, header-length}
-- a refusal tells no length
pub use Rattle.file_writing.proofs.Answers.{refusal_sizeless}
