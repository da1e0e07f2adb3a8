pub mod Comparing
pub mod Promised
