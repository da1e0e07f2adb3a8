-- Laws: the laws of this crate that crates above cite. A law that is not named here may change.
-- the table of live sets lies below the sets of the letters, and a step has room for these behind the block; words written below the building's
-- tables or behind the block leave the automaton
pub use Rattle.live_building.proofs.Places.{only_kept, step_room, tabled}
