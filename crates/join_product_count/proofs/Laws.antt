-- Laws: the laws of this crate that crates above cite. A law that is not named here may change.
-- the second file's number of a letter of the first, and that exactly the same letter has it
pub use Rattle.join_product_count.proofs.OtherLetters.{SameAt, number_same, same_number}
-- arcs of an intersection, made of the arcs of its files as loops meet them
pub use Rattle.join_product_count.proofs.ProductArcLaws.{Wanted, empty-next, empty-none, empty-relettered, empty-skip, flat_next, flat_none, joint_next, joint_none, joint_nothing, joint_ops, joint_skip, letter_at, ops-at, ops-here, source-at, target_at_lem, wanted}
-- the arcs of an intersection are joint arcs, empty moves of the first, empty moves of the second
pub use Rattle.join_product_count.proofs.ArcGroups.{joint_group, left-group, right-group}
