pub mod FillingLaws
pub mod FilledSets
pub mod PlaceTurns
pub mod Laws
