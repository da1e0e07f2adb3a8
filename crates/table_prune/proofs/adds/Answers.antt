-- `table_prune::adds` meets its contract: of an arc of a letter the test is the contract's.
use mathlib.Core.Path.{subst, sym}
use mathlib.Core.Bool.{Bool, false, not, true}
use mathlib.Core.List.{List}
use Prim.Native.Nat.{ℕ}
use native.Mathlib.Omega.{arith}
use lib.Dec.{T}
use Rattle.word_sets.specs.Sets.{in_set}
use Rattle.word_rows.specs.Rows.{related}
use Rattle.table_prune.proofs.adds.Goals as goal

-- what is not false
not-not : (b : Bool) → ¬ (T (not b)) → T b
not-not true n = tt
not-not false n = n tt

pub returns-then-arc-lt64 : goal.returns-then-arc-lt64
unfolding related
returns-then-arc-lt64 c = record { yes = λ x. c.if-arc-lt64.true; no = λ x l j m. subst (λ (s : List ℕ). T (in_set s j)) c.set_of-old.ensures (c.inside.ensures.0 (not-not c.inside.result x) j (subst (λ (s : List ℕ). T (in_set s j)) (sym c.load-new.ensures) m)) }

pub returns-else-arc-lt64 : goal.returns-else-arc-lt64
returns-else-arc-lt64 c = record { yes = λ x. absurd x; no = λ x l j m. absurd (omega (arith, c.if-arc-lt64.false)) }
