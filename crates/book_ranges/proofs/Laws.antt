-- Laws: the laws of this crate that crates above cite. A law that is not named here may change.
-- where a text is a word, the bytes that tell its places stand in the buffer
pub use Rattle.book_ranges.proofs.Told.{told-most}
