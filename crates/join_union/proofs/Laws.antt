-- Laws: the laws of this crate that crates above cite. A law that is not named here may change.
-- a union that is not beyond a limit is within the limits of a file, where the two automata are
pub use Rattle.join_union.proofs.UnionFits.{union-fits}
-- letters put into a union of automata by their own numbers make it the union of the automata over these letters; it lists those of the first, and has the arcs of the second
pub use Rattle.join_union.proofs.UnionPut.{union-ends, union-lists, union-put}
