-- Laws: the laws of this crate that crates above cite. A law that is not named here may change.
-- two files that are to be joined or compared: what is known of them, and the refusals of a call behind theirs
pub use Rattle.file_pair.proofs.PairLaws.{agree_same, files-many, files-passed, files-refused, files-valid}
-- over which letters, and by which numbers, the automata of two such files are joined or compared
pub use Rattle.file_pair.proofs.LetteredLaws.{agree_joinable, alike-over, apart-over, header-lettered, lent_over, lettered-few, over-apart}
