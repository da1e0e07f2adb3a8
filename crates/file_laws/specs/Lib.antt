pub mod Examples
pub mod Wanted
