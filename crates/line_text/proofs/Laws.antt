-- Laws: the laws of this crate that crates above cite. A law that is not named here may change.
-- what is written part by part, each behind the one before, is one text
pub use Rattle.line_text.proofs.WritingLaws.{then}
-- the digits of a number and of bytes, one digit or byte at a time, and examples of them
pub use Rattle.line_text.proofs.DigitLaws.{decimal_more, decimal_one}
