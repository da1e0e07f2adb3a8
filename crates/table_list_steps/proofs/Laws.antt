-- Laws: the laws of this crate that crates above cite. A law that is not named here may change.
-- the rows of listed arcs' targets join the sets of their letters, one arc after the other
pub use Rattle.table_list_steps.proofs.VisitArcs.{among-split, upto}
