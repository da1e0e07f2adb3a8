pub mod WordCounts
pub mod Promised
