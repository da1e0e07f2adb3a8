pub mod BesideArcs
pub mod PairNumber
pub mod Laws
