pub mod Numbers
pub mod Letters
