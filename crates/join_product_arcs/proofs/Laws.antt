-- Laws: the laws of this crate that crates above cite. A law that is not named here may change.
-- the number of a pair of states, i * n + j, is below the number of pairs
pub use Rattle.join_product_arcs.proofs.PairNumber.{Pair-below}
