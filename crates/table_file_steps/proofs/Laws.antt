-- Laws: the laws of this crate that crates above cite. A law that is not named here may change.
-- words written elsewhere leave the configurations to be found, and where the arcs of the file lead, as they were
pub use Rattle.table_file_steps.proofs.VisitFile.{SameMap, findable-kept, findable-same, from-kept, map-kept}
