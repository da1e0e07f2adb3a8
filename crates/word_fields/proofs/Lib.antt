pub mod FrameLaws
pub mod TwoFrames
pub mod FieldLaws
pub mod ChainLaws
pub mod Lookup
pub mod WordLaws
pub mod Numbers
pub mod Laws
