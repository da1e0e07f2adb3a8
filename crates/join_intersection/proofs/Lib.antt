pub mod BothFlags
pub mod ManyOps
pub mod IntersectionBytes
pub mod IntersectionFits
pub mod IntersectionPut
pub mod IntersectionRoomy
pub mod Laws
