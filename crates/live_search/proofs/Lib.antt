pub mod SearchFrames
pub mod ExpandSet
pub mod TwinRows
pub mod MetSets
pub mod Laws
