use mathlib.Core.Path.{◌≡◌, ap, sym, ◌∙◌}
use mathlib.Core.Bool.{cond, not}
use Prim.Native.Nat.{suc, ◌+◌}
use native.Mathlib.Nat.{zero-add}
use native.Mathlib.Numerals.{add-one}
use native.Mathlib.Omega.{arith}
use borrow.Author.Tests.{not-true}
use lib.ListN.{drop}
use Rattle.file_fields.specs.Parts.{unlike_front}
use Rattle.file_fields.proofs.Laws.{unlike-at, unlike-end}
use Rattle.format.proofs.letter_list.unlike_front.Goals as goal
use Rattle.format.proofs.letter_list.unlike_front.Goals.{After-is_listed_again}

-- what this turn decides
turn : (c : goal.After-is_listed_again) → unlike_front c.args.s.now ≡ c.loop-i.i + cond (not c.is_listed_again.result) (suc (unlike_front (drop (suc c.loop-i.i) c.args.s.now))) 0
turn c = c.loop-i.invariant ∙ ap (λ n. c.loop-i.i + n) (unlike-at c.args.s.now c.loop-i.i (omega arith)) ∙ rw c.is_listed_again.ensures

pub loop-i-init : goal.loop-i-init
loop-i-init c = rw zero-add

pub returns-then-not-may_have_both_cases : goal.returns-then-not-may_have_both_cases
returns-then-not-may_have_both_cases c = sym (c.may_have_both_cases.ensures (not-true _ c.if-not-may_have_both_cases.true-raw))

pub returns-then-is_listed_again : goal.returns-then-is_listed_again
returns-then-is_listed_again c = sym (turn (goal.at.returns-then-is_listed_again c).After-is_listed_again ∙ rw c.if-is_listed_again.true (omega arith))

pub loop-i-preserved : goal.loop-i-preserved
loop-i-preserved c = turn (goal.at.loop-i-preserved c).After-is_listed_again ∙ rw (c.if-is_listed_again.false, add-one) (omega arith)

pub returns : goal.returns
returns c = let e = unlike-end c.args.s.now c.loop-i.i (omega arith) in
    omega (arith, c.loop-i.invariant)
