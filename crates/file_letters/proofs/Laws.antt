-- Laws: the laws of this crate that crates above cite. A law that is not named here may change.
-- the joined list ascends
pub use Rattle.file_letters.proofs.JoinedAscends.{joined-ascends}
-- what a search for a letter's place answers, and that the place is no further than behind the last letter
pub use Rattle.file_letters.proofs.PlaceLaws.{place_found, place_within}
