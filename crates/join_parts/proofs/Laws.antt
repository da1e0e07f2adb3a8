-- Laws: the laws of this crate that crates above cite. A law that is not named here may change.
-- what holds of each element of a list, of lists that are made of others
pub use Rattle.join_parts.proofs.EachElement.{each-flat_map, each-imply, each_keep, each_map}
-- an automaton that is not beyond a limit, whose arcs are within those of its counts, is within the limits of a file
pub use Rattle.join_parts.proofs.WithinLimits.{FewOps, few_ops, joined-fits, none_passes, within}
-- what the answer for a joined automaton says: 11, 25 or its length, each exactly where it holds; and that it is a call's answer where the files have no fault
pub use Rattle.join_parts.proofs.AnswerLaws.{as-told, closed-fault, closed-valid, decided-written, joined-both, joined-fault, joined-many, unchanged, written-bytes}
-- arcs with other states and registers, and the arcs that joins add, are within the limits of the joined counts
pub use Rattle.join_parts.proofs.MovedFits.{Room, arc-moved, arcs-moved, empty-moves, empty-moves-fit, moved-states, ops-moved, return_fits, returns_fit, states-moved, unmoved}
-- the arcs of a valid file, one behind the other, as loops meet them, and the bytes of arcs made of them
pub use Rattle.join_parts.proofs.ArcWalk.{ArcHere, Walk, arc-at, arcs-next, arcs-none, walk_here, walk-on, walk_start}
-- how many bytes the arcs that joins write take
pub use Rattle.join_parts.proofs.ArcLengths.{arcs-moved-length, entry_length, returning-length}
-- the final flags of a file and the numbers of its final states, as the loops meet them
pub use Rattle.join_parts.proofs.FinalFlags.{flags-end, lent_finals, lent_flags, returning, valid-finals, valid-flags, valid-lengths}
-- automata over the same letters
pub use Rattle.join_parts.proofs.NewLetters.{over-same}
-- letters put into a joined automaton do not change the length of its file
pub use Rattle.join_parts.proofs.LettersPut.{put-length}
-- what a join of two files by their own numbers is once letters are put in, or where they agree; its answer, operations and counts
pub use Rattle.join_parts.proofs.OwnJoins.{few-by_own, first-room, own-ranges, own_room, own-written, put-alike, put-apart, ranges-by_own, written-by_own}
-- an automaton with room for n letters: its counts, its bytes as writers meet them, and where its front ends
pub use Rattle.join_parts.proofs.RoomyLaws.{roomy-counts, roomy-ends, roomy-from, roomy-length, roomy_letters}
-- once a join by the files' own numbers is written, it stands in the output as putting in the letters of both asks
pub use Rattle.join_parts.proofs.InPlace.{standing}
