pub mod ArcBytes
pub mod Laws
