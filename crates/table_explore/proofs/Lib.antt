pub mod PackedWalk
pub mod ExploreOne
pub mod ExploreAll
pub mod ExploredBlock
pub mod Laws
