pub mod RangeAnswers
pub mod Promised
