pub mod Pair
pub mod Lettered
