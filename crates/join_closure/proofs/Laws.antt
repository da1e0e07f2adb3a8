-- Laws: the laws of this crate that crates above cite. A law that is not named here may change.
-- a closure that is not beyond a limit is within the limits of a file, where the automaton is
pub use Rattle.join_closure.proofs.ClosureFits.{closure-fits}
