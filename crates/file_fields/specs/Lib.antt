pub mod Parts
pub mod Letters
