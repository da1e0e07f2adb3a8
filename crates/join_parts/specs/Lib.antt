pub mod Joining
pub mod OwnNumbers
