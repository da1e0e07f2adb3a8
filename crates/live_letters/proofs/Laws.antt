-- Laws: the laws of this crate that crates above cite. A law that is not named here may change.
-- what is written beside a table leaves its rows and its entries; sets of the letters that are as they were, and the room of one side or two; a step leaves the set behind a letter
pub use Rattle.live_letters.proofs.TableFrames.{behind-same, holds_kept, one-room, set_same, step-behind, table_kept, two-room}
-- the walk over the rows in number order, for every search: its invariant Walked, its start, its turns and its end
pub use Rattle.live_letters.proofs.Walking.{Walked, holds-start, table-start, walk_end, walked_more, Walked-over, walked_start}
-- a row that is met: what it leaves of the words, of the table, of the entries and of whatever else rows stand for, and that the row of two empty
-- sets stays known; equal views, of sets of numbers below n, have the same members
pub use Rattle.live_letters.proofs.MeetRow.{Joined, dead_more, met, met-grows, met-joins, met-kept, same-members}
-- the sets of letters met one after the other: what holds again behind each letter holds behind all; and so of rows that can be found, of a table,
-- and of the entries of an exploration
pub use Rattle.live_letters.proofs.MetAllLaws.{met_all, MetAll-entries, MetAll-rows, MetAll-table}
