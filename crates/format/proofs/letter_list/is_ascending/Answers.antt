use mathlib.Core.Path.{◌≡◌, ap, sym, ◌∙◌}
use native.Mathlib.Nat.{zero-add}
use native.Mathlib.Omega.{arith}
use mathlib.Core.Bool.{cond}
use Prim.Native.Nat.{suc, ◌+◌, ◌-◌}
use borrow.Author.Tests.{le-leb, le-ltb, lt-leb, lt-ltb}
use lib.Dec.{ltb}
use lib.ListN.{length, get_or, drop}
use Rattle.file_fields.specs.Parts.{ascending_front}
use Rattle.file_fields.proofs.Laws.{ascending-all, ascending-at, ascending-end}
use Rattle.format.proofs.letter_list.is_ascending.Goals as goal
use Rattle.format.proofs.letter_list.is_ascending.Goals.{In-loop-i}

-- what this turn decides
turn : (c : goal.In-loop-i) → ascending_front c.args.s.now ≡ c.loop-i.i - 1 + suc (cond (ltb (get_or c.args.s.now (c.loop-i.i - 1) 0) (get_or c.args.s.now c.loop-i.i 0)) (ascending_front (drop c.loop-i.i c.args.s.now)) 0)
turn c = let e : suc (c.loop-i.i - 1) ≡ c.loop-i.i = omega arith in
    c.loop-i.invariant.1 ∙ ap (λ n. c.loop-i.i - 1 + n) (ascending-at c.args.s.now (c.loop-i.i - 1) (omega arith) ∙ rw e)

pub loop-i-init : goal.loop-i-init
loop-i-init c = (omega arith, rw zero-add)

pub returns-then-s-i : goal.returns-then-s-i
returns-then-s-i c = let e : ascending_front c.args.s.now ≡ c.loop-i.i - 1 + suc 0 = turn (goal.at.returns-then-s-i c).In-loop-i ∙ rw (le-ltb (get_or c.args.s.now (c.loop-i.i - 1) 0) (get_or c.args.s.now c.loop-i.i 0) (omega arith)) in
    sym (ascending-all c.args.s.now ∙ lt-leb (length c.args.s.now) (ascending_front c.args.s.now) (omega arith))

pub loop-i-preserved : goal.loop-i-preserved
loop-i-preserved c = let e : c.loop-i.i + 1 - 1 ≡ c.loop-i.i = omega arith in
    (omega arith, turn (goal.at.loop-i-preserved c).In-loop-i ∙ rw (lt-ltb (get_or c.args.s.now (c.loop-i.i - 1) 0) (get_or c.args.s.now c.loop-i.i 0) (omega arith), e) (omega arith))

pub returns : goal.returns
returns c = let e = ascending-end c.args.s.now (c.loop-i.i - 1) (omega arith) in
    sym (ascending-all c.args.s.now ∙ le-leb (length c.args.s.now) (ascending_front c.args.s.now) (omega (arith, c.loop-i.invariant.1)))
