-- what the functions' proofs go by
pub mod TestLaws
pub mod ReadingTurns
pub mod LetterLaws
pub mod Laws
