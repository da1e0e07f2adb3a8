pub mod PackedWord
pub mod PackedMeaning
pub mod OperationLoop
pub mod ArcPlaces
pub mod LinkArcs
pub mod Laws
