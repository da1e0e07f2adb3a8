-- Laws: the laws of this crate that crates above cite. A law that is not named here may change.
-- what exploring answers says how many configurations and plain arcs there are
pub use Rattle.table.proofs.BuildBlock.{explored-few, explored-many}
-- what a call answers by what opening its file answers, and how much an open file's block holds
pub use Rattle.table.proofs.Opening.{holds-count, holds-few, holds_plain, holds-room, holds-valid, opened-passed, opened-refused}
-- the plain arcs that an open file's block lists are its automaton's, in their order
pub use Rattle.table.proofs.FaceLaws.{holds-end, holds-plains}
-- the configurations that stand in the words; an automaton that is built: its block, what a step asks, and words written elsewhere
pub use Rattle.table.proofs.Standing.{holds-numbered, letters-are, letters-few, stands-few, stands-kept, stands-many, stands-numbered, stands-outgoing, stands-steps, stands-tells, stands-told}
-- plain arcs lead between the configurations and have letters of the automaton
pub use Rattle.table.proofs.PlainFits.{PlainFits, plain-fit, some-configuration}
