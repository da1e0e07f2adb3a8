pub mod Words
pub mod Promised
