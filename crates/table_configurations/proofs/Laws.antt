-- Laws: the laws of this crate that crates above cite. A law that is not named here may change.
-- the plain arcs numbered on the way are those numbered at the end
unfoldable pub use Rattle.table_configurations.proofs.NumberedArcs.{all_numbered}
pub use Rattle.table_configurations.proofs.NumberedArcs.{arcs_numbered, next_known, upto-final}
-- the tables once a configuration more has its number, once an arc more is noted, and when other words change
pub use Rattle.table_configurations.proofs.TableGrowth.{configured-kept, configured-none, tabled-kept, tabled-none}
-- what is found in the table of configurations is the number that the walk gives, and what meeting one makes of the tables
pub use Rattle.table_configurations.proofs.FindConfiguration.{all-at, all-length, placed-kept}
