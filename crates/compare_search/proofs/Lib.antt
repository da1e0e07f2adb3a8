pub mod BlockFrames
pub mod ExpandPair
pub mod FirstPair
pub mod Laws
