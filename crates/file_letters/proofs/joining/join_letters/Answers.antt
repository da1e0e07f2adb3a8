-- `file_letters::joining::join_letters` meets its contract.
use mathlib.Core.Path.{◌∙◌, ◌≡◌, ap}
use mathlib.Core.List.{List}
use Prim.Native.Nat.{◌-◌, ◌≤◌, ℕ}
use native.Mathlib.Omega.{arith}
use borrow.Author.Rules.{rules}
use lib.ListN.{length, take}
use Rattle.automata.specs.Words.{places}
use Rattle.relettering.specs.Relettering.{joined_letters}
use Rattle.relettering.proofs.Laws.{joined-long}
use Rattle.file_letters.proofs.joining.join_letters.Goals as goal
use Rattle.file_letters.proofs.joining.join_letters.Goals.{After-join_lists-j, After-number_letters-one, After-number_letters-two}

-- the part of the array that is lent is the joined list
lent : (j : goal.After-join_lists-j) → take (j.join_lists-j.result.count - 0) j.join_lists-j.result.letters ≡ joined_letters j.args.first.now j.args.second.now
lent j = let e : j.join_lists-j.result.count - 0 ≡ j.join_lists-j.result.count = omega arith in ap (λ (n : ℕ). take n j.join_lists-j.result.letters) e ∙ j.join_lists-j.ensures.1

-- the arrays are of 64 bytes
letters-size : (j : goal.After-join_lists-j) → length j.join_lists-j.result.letters ≡ 64
letters-size j = search rules

first-size : (n : goal.After-number_letters-one) → length n.number_letters-one.result ≡ 64
first-size n = search rules

second-size : (n : goal.After-number_letters-two) → length n.number_letters-two.result ≡ 64
second-size n = search rules

few : (j : goal.After-join_lists-j) → j.join_lists-j.result.count ≤ length j.join_lists-j.result.letters
few j = omega (arith, j.join_lists-j.ensures.0, j.requires.1, letters-size j)

pub slice_bounds-number_letters-end : goal.slice_bounds-number_letters-end
slice_bounds-number_letters-end c = search (rules, few (goal.at.slice_bounds-number_letters-end c).After-join_lists-j)

pub number_letters-one-requires : goal.number_letters-one-requires
number_letters-one-requires c = (omega (arith, (joined-long c.args.first.now c.args.second.now).0, c.requires.1), rw (lent (goal.at.number_letters-one-requires c).After-join_lists-j) c.requires.1)

pub slice_bounds-number_letters-end-2 : goal.slice_bounds-number_letters-end-2
slice_bounds-number_letters-end-2 c = search (rules, few (goal.at.slice_bounds-number_letters-end-2 c).After-join_lists-j)

pub number_letters-two-requires : goal.number_letters-two-requires
number_letters-two-requires c = (c.requires.0, rw (lent (goal.at.number_letters-two-requires c).After-join_lists-j) c.requires.1)

pub returns : goal.returns
returns c = record { arrays = (letters-size (goal.at.returns c).After-join_lists-j, first-size (goal.at.returns c).After-number_letters-one, second-size c); count = c.join_lists-j.ensures.0; letters = c.join_lists-j.ensures.1; first = c.number_letters-one.ensures ∙ ap (λ (all : List ℕ). places all c.args.first.now) (lent (goal.at.returns c).After-join_lists-j); second = c.number_letters-two.ensures ∙ ap (λ (all : List ℕ). places all c.args.second.now) (lent (goal.at.returns c).After-join_lists-j) }
