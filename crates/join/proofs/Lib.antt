-- what callers may rely on: read this first
pub mod Promise
-- the laws behind it
pub mod Outcomes
pub mod BeyondLaws
pub mod OwnNumbers
