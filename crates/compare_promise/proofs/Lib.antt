pub mod OverLetters
pub mod ShownBytes
pub mod Refusals
pub mod Promise
pub mod Settled
