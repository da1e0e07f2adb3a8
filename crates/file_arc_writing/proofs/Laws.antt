-- Laws: the laws of this crate that crates above cite. A law that is not named here may change.
-- the bytes of arcs and operations, as the writers' loops meet them, and their lengths
pub use Rattle.file_arc_writing.proofs.ArcBytes.{arc-length, cleared, cleared-count, clearing-few, clearing-more, count-length, ops-unmoved}
