-- Laws: the laws of this crate that crates above cite. A law that is not named here may change.
-- what tests that hold say, joined by &&, or one after the other with their numbers
pub use Rattle.file_fields.proofs.TestLaws.{Hold, Holds, all-false, all_hold_lem, and_both, and_then, each_holds, failed, fault_append, goes_on, Goes-on_with, Hold-valid, itself, one-fails, passed, stops, valid-hold}
-- the definitions of reading at a place of the whole list, one step and the end: what the loops go by
pub use Rattle.file_fields.proofs.ReadingTurns.{among-at, among-end, arcs-all, arcs-at, arcs-end, ascending-all, ascending-at, ascending-end, down, flags-all, flags-at, flags-end, flags-length, lent_letters, letters-length, none_left, ops-all, ops-at, ops-end, tail, unlike-all, unlike-at, unlike-end}
-- of letters that ascend, one in both cases is a capital with its small letter behind it
pub use Rattle.file_fields.proofs.LetterLaws.{nothing-behind, one-kind, small-behind}
