pub mod OtherLetters
pub mod ProductArcLaws
pub mod ArcGroups
pub mod Uncounted
pub mod Laws
