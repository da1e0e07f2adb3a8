pub mod VisitFile
pub mod Laws
