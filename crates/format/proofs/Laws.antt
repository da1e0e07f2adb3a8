-- Laws: the laws of this crate that crates above cite. A law that is not named here may change.
-- what reading has seen of a header when it finds no fault there, and what it then goes on to
pub use Rattle.format.proofs.ValidHeader.{HeaderSeen, body_tests, header-seen, seen-header}
