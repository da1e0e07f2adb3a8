pub mod VisitArcs
pub mod Laws
