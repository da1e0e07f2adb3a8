-- Laws: the laws of this crate that crates above cite. A law that is not named here may change.
-- a table whose rows are those of another holds the same sets
pub use Rattle.live_search.proofs.SearchFrames.{sets_same}
-- what a step tells of the sets that it leaves for each letter
pub use Rattle.live_search.proofs.ExpandSet.{Stepped}
-- the sets of letters met one after the other join the list of the sets that stand in the table
pub use Rattle.live_search.proofs.MetSets.{MetAll-sets}
