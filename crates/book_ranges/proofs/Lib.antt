pub mod Fronts
pub mod Turns
pub mod Told
pub mod Examples
pub mod Laws
