pub mod RowLaws
pub mod HeldTwice
pub mod Warshall
pub mod ThroughRows
pub mod Laws
