-- Laws: the laws of this crate that crates above cite. A law that is not named here may change.
-- one configuration in one word: packing is injective, and registers are read and written in place
pub use Rattle.table_operations.proofs.PackedWord.{Small}
-- what the packed definitions stand for: they are the images of the definitions of crate automata
pub use Rattle.table_operations.proofs.PackedMeaning.{Good, Packs, hops-packed, pack-inj, pack_hop, same-packed, state-of}
-- one arc at a place of the whole file, and the loop over its operations
pub use Rattle.table_operations.proofs.OperationLoop.{Performing, hop-at, next-ok, Performing-end, Performing-failed, Performing-more, Performing-start}
-- the arcs of a file at their places, one after the other, and the list of these places in the words
pub use Rattle.table_operations.proofs.ArcPlaces.{entry_at}
-- the chains of arcs by from-state
pub use Rattle.table_operations.proofs.LinkArcs.{hops-chosen, hops_of, indexed-kept, linked-kept, state_of}
