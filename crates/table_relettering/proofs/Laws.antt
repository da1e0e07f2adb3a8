-- Laws: the laws of this crate that crates above cite. A law that is not named here may change.
-- a block whose listed arcs got the new numbers of their letters tells the plain arcs with the new letters; by no new numbers it is as it was
pub use Rattle.table_relettering.proofs.Retold.{Relisted-listed, Relisted-none, Relisted-tells}
