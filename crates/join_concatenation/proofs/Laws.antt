-- Laws: the laws of this crate that crates above cite. A law that is not named here may change.
-- a concatenation that is not beyond a limit is within the limits of a file, where the two automata are
pub use Rattle.join_concatenation.proofs.ConcatenationFits.{concatenation-fits}
-- letters put into a concatenation of automata by their own numbers make it the concatenation of the automata over these letters; it lists those of the first, and has the arcs of the second
pub use Rattle.join_concatenation.proofs.ConcatenationPut.{concatenation-ends, concatenation-lists, concatenation-put}
