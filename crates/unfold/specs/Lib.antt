pub mod Unfolding
pub mod Promised
