-- what the functions' proofs go by; the laws of the file are in crate file_laws
pub mod ValidHeader
pub mod Laws
