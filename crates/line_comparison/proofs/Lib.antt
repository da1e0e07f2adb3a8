pub mod LengthLaws
pub mod ComparisonLaws
mod TellingLaws
