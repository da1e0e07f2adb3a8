pub mod Writing
pub mod Digits
pub mod Line
pub mod Putting
