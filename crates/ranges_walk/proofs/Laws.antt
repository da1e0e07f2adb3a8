-- Laws: the laws of this crate that crates above cite. A law that is not named here may change.
-- words written below the building's tables or behind the block leave the automaton; a live set in row 0 is the only one before the first place
pub use Rattle.ranges_walk.proofs.WalkFrames.{ready-kept, start-sets}
-- whether the bytes from one of them on are ranges, where two bytes are left, or one
pub use Rattle.ranges_walk.proofs.ByTwos.{Bad-one, Bad-two}
