pub mod Refusals
pub mod StartCounting
