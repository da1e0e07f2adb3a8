pub mod FirstDifference
pub mod WordOfRow
pub mod PutWord
pub mod Laws
