-- Laws: the laws of this crate that crates above cite. A law that is not named here may change.
-- what a caller may rely on, of any list of bytes s that `read` is handed and of any automaton x
pub use Rattle.file_laws.proofs.Promise.{number-range, place_inside, round_trip, valid-automaton}
-- no number of a file's fault is 0, and each has at most two digits
pub use Rattle.file_laws.proofs.FaultLaws.{number-between}
-- of a file with a fault behind its header, the counts are in their ranges
pub use Rattle.file_laws.proofs.PlaceLaws.{behind-header}
-- where each test decides its condition, the first test that holds is the first condition that holds (format's specs/Refusals.antt)
pub use Rattle.file_laws.proofs.Refusals.{Decide, Decides, NoneHolds, Outcome, at_least, automaton-one, decided, either_less, fault_decided, first-exactly, first_some, has-fault, less-decided, less-iff, no_fault, none_first, number-above, number-one, reach-decided, refused-or_not}
-- what is so of a valid file: its automaton has the counts that reading answers and is within the limits, its arcs stand whole, and it is no longer than 41,292 bytes
pub use Rattle.file_laws.proofs.ValidLaws.{file-seen, lent_alphabet, valid-alphabet, valid-arcs, valid-decoded, valid-fits, valid-letters, valid-lies, valid-longest, valid-ranges, valid-sizes, valid-well_formed}
-- the bytes of an automaton within the limits are a valid file, from which the same automaton is read
pub use Rattle.file_laws.proofs.EncodingLaws.{bytes-length, ops-length}
-- a valid file is the bytes of its automaton, so no two valid files hold the same one
pub use Rattle.file_laws.proofs.CanonicalLaws.{flags-same, letter-same}
-- arcs that are read without fault are within the limits, and stand whole as code that walks them asks; their operations are reads and writes
pub use Rattle.file_laws.proofs.ArcLaws.{arc-fits, arcs-seen, Op-kind, ops-count}
-- an operation and an arc within the limits of some counts, and that the arcs of an automaton within the limits are
pub use Rattle.file_laws.proofs.Fitting.{ArcFits, OpFits, arcs-fit, fits_by}
