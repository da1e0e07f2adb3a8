-- `word_sets::size` meets its contract: each word has at most 64 digits 1, so the sum fits.
use native.Mathlib.Omega.{arith}
use Prim.Native.Nat.{ℕ, ◌≤◌}
use lib.ListN.{get_or}
use lib.Count.{ones, ones-le}
use Rattle.word_sets.proofs.SetLaws.{four}
use Rattle.word_sets.proofs.Views.{size-set}
use Rattle.word_sets.proofs.size.Goals as goal
use Rattle.word_sets.proofs.size.Goals.{Start}

most : (c : goal.Start) (i : ℕ) → ones (get_or c.args.set i 0) ≤ 64
most c i = ones-le 64 _ ((four c.args.set _ c.well_formed.0).fits i)

pub overflow_add-result : goal.overflow_add-result
overflow_add-result c = let most' : (i : ℕ) → ones (get_or c.args.set i 0) ≤ 64 = λ i. ones-le 64 _ ((four c.args.set _ c.well_formed.0).fits i) in
    omega (arith, most' 0, most' 1)

pub overflow_add-result-2 : goal.overflow_add-result-2
overflow_add-result-2 c = let most' : (i : ℕ) → ones (get_or c.args.set i 0) ≤ 64 = λ i. ones-le 64 _ ((four c.args.set _ c.well_formed.0).fits i) in
    omega (arith, most' 0, most' 1, most' 2)

pub overflow_add-result-3 : goal.overflow_add-result-3
overflow_add-result-3 c = omega (arith, most c 0, most c 1, most c 2, most c 3)

pub returns : goal.returns
returns c = size-set c.args.set (four c.args.set _ c.well_formed.0)
