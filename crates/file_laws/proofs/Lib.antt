-- what callers may rely on: read this first
pub mod Promise
pub mod Examples
-- the refusals of a call
pub mod Refusals
-- the laws behind it
pub mod ValidLaws
pub mod EncodingLaws
pub mod CanonicalLaws
pub mod FaultLaws
pub mod WantedLaws
pub mod PlaceLaws
pub mod FrontLaws
pub mod ArcLaws
pub mod Fitting
pub mod Laws
