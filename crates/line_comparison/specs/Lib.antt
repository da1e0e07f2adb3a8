pub mod ComparisonLines
