-- Laws: the laws of this crate that crates above cite. A law that is not named here may change.
-- an intersection that is not beyond a limit is within the limits of a file, where the two automata are
pub use Rattle.join_intersection.proofs.IntersectionFits.{intersection-fits}
-- letters put into an intersection of files by the first's numbers make it the intersection over these letters; it lists those of the first
pub use Rattle.join_intersection.proofs.IntersectionPut.{intersection-lists, intersection-put}
