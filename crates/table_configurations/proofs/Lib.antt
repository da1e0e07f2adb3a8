pub mod NumberedArcs
pub mod FieldLists
pub mod TableGrowth
pub mod FindConfiguration
pub mod Laws
