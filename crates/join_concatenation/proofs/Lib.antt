pub mod ConcatenationBytes
pub mod ConcatenationFits
pub mod ConcatenationPut
pub mod Laws
