use mathlib.Core.Path.{◌≡◌, ap, sym, ◌∙◌}
use native.Mathlib.Nat.{zero-add}
use native.Mathlib.Omega.{arith}
use mathlib.Core.Bool.{cond}
use Prim.Native.Nat.{ℕ, suc, ◌+◌, ◌-◌, ◌*◌}
use borrow.Author.Tests.{le-leb, lt-leb}
use lib.ListN.{get_or, drop}
use Rattle.file_fields.specs.Parts.{ops_front, well_op}
use Rattle.file_fields.proofs.Laws.{failed, ops-all, ops-at, ops-end, passed}
use Rattle.file_arcs.proofs.are_operations.Goals as goal
use Rattle.file_arcs.proofs.are_operations.Goals.{In-loop-i}

-- what this turn decides
turn : (c : goal.In-loop-i) (letter : ℕ) → ops_front c.args.c letter c.args.p c.args.s.now ≡ c.loop-i.i + cond (well_op c.args.c letter (get_or c.args.s.now (2 * c.loop-i.i) 0) (get_or c.args.s.now (2 * c.loop-i.i + 1) 0)) (suc (ops_front c.args.c letter (c.args.p - (c.loop-i.i + 1)) (drop (2 * (c.loop-i.i + 1)) c.args.s.now))) 0
turn c letter = c.loop-i.invariant letter ∙ ap (λ n. c.loop-i.i + n) (ops-at c.args.c letter c.args.p c.loop-i.i c.args.s.now c.loop-i-test.true)

pub loop-i-init : goal.loop-i-init
loop-i-init c = let e : c.args.p - 0 ≡ c.args.p = omega arith in λ letter. rw (zero-add, e)

pub returns-then-not-is_operation : goal.returns-then-not-is_operation
returns-then-not-is_operation c letter = let e : ops_front c.args.c letter c.args.p c.args.s.now ≡ c.loop-i.i + 0 = turn (goal.at.returns-then-not-is_operation c).In-loop-i letter ∙ rw (failed (c.is_operation.ensures letter) c.if-not-is_operation.true-raw) in
    sym (ops-all c.args.c letter c.args.p c.args.s.now ∙ lt-leb c.args.p (ops_front c.args.c letter c.args.p c.args.s.now) (omega arith))

pub loop-i-preserved : goal.loop-i-preserved
loop-i-preserved c = λ letter. turn (goal.at.loop-i-preserved c).In-loop-i letter ∙ rw (passed (c.is_operation.ensures letter) c.if-not-is_operation.false-raw) (omega arith)

pub returns : goal.returns
returns c letter = let e = ops-end c.args.c letter c.args.p c.loop-i.i (drop (2 * c.loop-i.i) c.args.s.now) (omega arith) in
    sym (ops-all c.args.c letter c.args.p c.args.s.now ∙ le-leb c.args.p (ops_front c.args.c letter c.args.p c.args.s.now) (omega (arith, c.loop-i.invariant letter)))
