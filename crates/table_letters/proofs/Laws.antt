-- Laws: the laws of this crate that crates above cite. A law that is not named here may change.
-- words written elsewhere leave the chains of the listed arcs as they were, and the sets of the letters
pub use Rattle.table_letters.proofs.LetteredFrame.{lettered-kept}
