pub mod Bits
pub mod SetLaws
pub mod Tables
pub mod Views
pub mod NextLive
pub mod Laws
