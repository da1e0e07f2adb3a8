-- Laws: the laws of this crate that crates above cite. A law that is not named here may change.
-- what reading has seen of an arc when it finds no fault there
pub use Rattle.file_arcs.proofs.ValidArc.{ArcSeen, arc-seen}
