-- Laws: the laws of this crate that callers cite.
-- what a value of type [u64; 4] is; where a number stands in it, and how it is tested and joins; the empty one; two of them with the same
-- members are equal
pub use Rattle.word_sets.proofs.SetLaws.{Four, empty-set, four, Four-words, has-set, place, with_set}
pub use Rattle.word_sets.proofs.Views.{set-ext}
-- a set as the list of tests that Live calls a set
pub use Rattle.word_sets.proofs.Views.{count-within, In-view, length-view, meets-view, view-is}
pub use Rattle.word_sets.proofs.Tables.{count_none, table-ext}
-- one digit of a word, tested and set by the mask `1 << k`; those above the word's; the digits of a shifted word, and its lowest digit 1
pub use Rattle.word_sets.proofs.Bits.{bit-above, bit-or, bit-shift, bit-with, bit-zero, has-bit, trailing}
