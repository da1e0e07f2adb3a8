-- Laws: the laws of this crate that crates above cite. A law that is not named here may change.
-- the walk over packed configurations finds the configurations and the plain arcs of the automaton
pub use Rattle.table_explore.proofs.PackedWalk.{configurations-packed}
