pub mod Entries
pub mod SetRows
