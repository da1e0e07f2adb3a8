-- `compare_witness::first_difference` meets its contract. The loop's invariant: none of the rows below i differs.
use Rattle.compare_witness.proofs.FirstDifference.{NoneBefore}
use Rattle.compare_witness.proofs.first_difference.Given as goal

abbrev pub invariant-loop-i : goal.invariant-loop-i
invariant-loop-i l = NoneBefore l.t l.w l.n l.f l.g l.i
