pub mod ValidArc
pub mod Laws
