-- Laws: the laws of this crate that crates above cite. A law that is not named here may change.
-- the table of pairs stands in the lent words
pub use Rattle.compare_search.proofs.BlockFrames.{tabled}
