-- Laws: the laws of this crate that crates above cite. A law that is not named here may change.
-- while words are counted: the live sets by their numbers, and what is written beside the table and the block
pub use Rattle.count_targets.proofs.CountingLaws.{counting-few, counting_kept, counting-letters, counting-letters-few, numbered-first, numbered-view}
