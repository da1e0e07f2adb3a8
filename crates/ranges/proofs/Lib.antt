pub mod RangeTests
pub mod Refusals
pub mod SetTests
pub mod WalkAnswers
