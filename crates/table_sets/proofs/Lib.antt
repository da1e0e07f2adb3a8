pub mod LetterSets
pub mod BlockFrame
pub mod StepLaws
pub mod Telling
pub mod Laws
