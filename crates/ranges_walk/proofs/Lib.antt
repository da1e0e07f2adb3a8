pub mod WalkFrames
pub mod ByTwos
pub mod CopyRows
pub mod ExpandOne
pub mod ExpandSets
pub mod PlacesWalk
pub mod Laws
