pub mod Numbering
pub mod CountingLaws
pub mod NotingLaws
pub mod Laws
