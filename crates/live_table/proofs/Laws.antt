-- Laws: the laws of this crate that crates above cite. A law that is not named here may change.
-- a row has the key of its sets; what is found, as a number; where none is found, no row has the members of both sets
pub use Rattle.live_table.proofs.AddRow.{found-row, lacking, same_key_lem}
-- what is written beside a table leaves it as it is; where a row has one set, its right one is its left one
pub use Rattle.live_table.proofs.RowFrames.{Outside, left-kept, parent-kept, right_kept, rows-kept, same_row, tabled-kept}
