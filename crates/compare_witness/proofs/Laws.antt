-- Laws: the laws of this crate that crates above cite. A law that is not named here may change.
-- what judging a row tells of its entry, and the first entry that differs
pub use Rattle.compare_witness.proofs.FirstDifference.{Judges, judge_entry}
-- up the parents, letter by letter; the word so spelled is that of the definition
pub use Rattle.compare_witness.proofs.WordOfRow.{spelled-word}
