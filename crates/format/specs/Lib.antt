pub mod Reading
pub mod Refusals
pub mod Decoding
pub mod Encoding
pub mod Limits
pub mod Placed
