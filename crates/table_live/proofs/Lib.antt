pub mod StepFrame
pub mod LetterTable
pub mod WalkWord
pub mod Laws
