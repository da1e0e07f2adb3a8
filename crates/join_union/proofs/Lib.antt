pub mod UnionBytes
pub mod UnionFits
pub mod UnionPut
pub mod Laws
