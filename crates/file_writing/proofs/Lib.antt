pub mod Placed
pub mod FileParts
pub mod Answers
pub mod Laws
