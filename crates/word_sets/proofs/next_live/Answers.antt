use native.Mathlib.Omega.{arith}
use lib.Count.{trailing_le}
use Rattle.word_sets.proofs.SetLaws.{four}
use Rattle.word_sets.proofs.NextLive.{rest_of, Scanned-start, Scanned-skip, Scanned-hit, Scanned-end}
use Rattle.word_sets.proofs.next_live.Goals as goal
use Rattle.word_sets.proofs.next_live.Goals.{then-at-q+else-x-ne0, else-at-q}

pub loop-q-init : goal.loop-q-init
loop-q-init c = (omega arith, Scanned-start _ (omega arith))

pub overflow_shr-x : goal.overflow_shr-x
overflow_shr-x c = omega (arith, c.digit_of.ensures)

pub overflow_cast-result : goal.overflow_cast-result
overflow_cast-result c = omega (arith, trailing_le 64 (rest_of c.args.set c.loop-q.q c.digit_of.result))

pub overflow_add-result : goal.overflow_add-result
overflow_add-result c = omega (arith, trailing_le 64 (rest_of c.args.set c.loop-q.q c.digit_of.result))

pub returns-then-x-ne0 : goal.returns-then-x-ne0
returns-then-x-ne0 c = rw c.digit_of.ensures (Scanned-hit c.loop-q.q (four c.args.set _ c.well_formed.0).fits (omega arith) (omega arith) (rw c.digit_of.ensures at c.if-x-ne0.true) c.loop-q.invariant.1)

pub loop-q-preserved : goal.loop-q-preserved
loop-q-preserved c = elim c.if-at-q.branch [
  | then-at-q+else-x-ne0 w ↦ rw w.at-is (omega arith, Scanned-skip c.loop-q.q (omega arith) (omega arith) (rw w.digit_of.ensures at w.if-x-ne0.false) c.loop-q.invariant.1)
  | else-at-q w ↦ rw w.at-is (omega arith, c.loop-q.invariant.1)
]

pub returns : goal.returns
returns c = Scanned-end (omega arith) c.loop-q.invariant.1
