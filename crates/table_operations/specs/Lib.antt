pub mod Packed
pub mod Arcs
