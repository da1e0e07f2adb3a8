-- Laws: the laws of this crate that crates above cite. A law that is not named here may change.
-- rows of lent words: their words, those that are as they were, and the one that holds its own number alone
pub use Rattle.word_rows.proofs.RowLaws.{row-above, row_below, row-four, row_other, row_same}
