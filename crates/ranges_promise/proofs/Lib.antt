pub mod Refusals
pub mod Promise
pub mod Settled
pub mod Examples
