pub mod RowNumbers
mod Lines
pub mod AddRow
pub mod RowFrames
pub mod Laws
