pub mod ClosureBytes
pub mod ClosureFits
pub mod Laws
