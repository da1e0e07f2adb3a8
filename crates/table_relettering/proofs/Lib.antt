pub mod RelistingLaws
pub mod Retold
pub mod Laws
