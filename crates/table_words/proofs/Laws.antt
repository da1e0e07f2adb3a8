-- Laws: the laws of this crate that crates above cite. A law that is not named here may change.
-- what the call answers: each word that was judged has the answer that membership gives (`each_is`), and which words these are
pub use Rattle.table_words.proofs.Promise.{words-promised}
