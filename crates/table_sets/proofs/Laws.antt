-- Laws: the laws of this crate that crates above cite. A law that is not named here may change.
-- the sets of the letters, of which a mask says which are met
pub use Rattle.table_sets.proofs.LetterSets.{none-met, same-sets, set-off}
-- words written elsewhere leave a block as it was, and what it stands for
pub use Rattle.table_sets.proofs.BlockFrame.{SameBlock, arc-kept, block-but, block-kept, end_below, end-few, end_kept, held-each, held_same, list-kept, related-kept, room-kept, start-kept, starts-kept}
-- a step by all letters at once takes each live configuration's arcs, and leaves the live set of each letter
pub use Rattle.table_sets.proofs.StepLaws.{Onward, Stepping, led, stepped, Stepping-more, Stepping-start}
-- a block that tells plain arcs: its list, what is written elsewhere, and its first row
pub use Rattle.table_sets.proofs.Telling.{tells-kept, tells-listed, tells-start}
