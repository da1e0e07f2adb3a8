-- `ranges::are_ranges` meets its contract: the places that the loop has passed are ranges, so the bytes that are left decide.
use Rattle.std.proofs.Common.{◌≡◌, length}
use Rattle.ranges_promise.specs.RangeAnswers.{bad_ranges}
use Rattle.ranges.proofs.are_ranges.Given as goal

abbrev pub invariant-loop-rest : goal.invariant-loop-rest
invariant-loop-rest l = bad_ranges l.a l.places ≡ bad_ranges l.a l.rest

abbrev pub decreases-loop-rest : goal.decreases-loop-rest
decreases-loop-rest l = length l.rest
