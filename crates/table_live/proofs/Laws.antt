-- Laws: the laws of this crate that crates above cite. A law that is not named here may change.
-- words written elsewhere leave what a step asks for, and what tells it the plain arcs, as they were
pub use Rattle.table_live.proofs.StepFrame.{Outgoing-kept, Steppable-kept}
-- nor do they change the numbers of the letters
pub use Rattle.table_live.proofs.LetterTable.{numbers-kept}
