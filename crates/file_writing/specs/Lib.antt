pub mod Placing
pub mod Answers
