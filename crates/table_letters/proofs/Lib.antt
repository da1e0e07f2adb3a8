pub mod Sources
pub mod LetteredFrame
pub mod LinkLetters
pub mod FollowChain
pub mod FollowSources
pub mod Laws
