pub mod WordLaws
pub mod SoFar
pub mod FewLive
pub mod Refusals
pub mod Promise
pub mod Laws
