-- Lengths: how many words of one length lead to a state that passes a test; and how many an automaton accepts, and how many not.
-- Renders change 2 of document 02. Words count, not runs: a word is a list of letter numbers, and two runs that spell it are one word.
use Rattle.std.specs.Prelude.{ℕ, zero, suc, ◌+◌, ◌≡◌, List, [], Bool, cond, length}
use Rattle.std.proofs.Math.Bool.{not}
use Rattle.automata.specs.Automaton.{Automaton, letters, Accepts}
use Rattle.automata.specs.LiveSets.{accepts_set, behind}
use Rattle.automata.specs.Search.{Over}
use Rattle.automata.specs.Unfolding.{live_set}

-- f 0 + f 1 + .. of the numbers below a
unfoldable pub sum_below : ℕ → (ℕ → ℕ) → ℕ
sum_below zero f = 0
sum_below (suc a) f = sum_below a f + f a

-- how many words of n letters below a lead from q to a state that passes the test
unfoldable pub many_from : {Q : Type 0} → (Q → ℕ → Q) → ℕ → (Q → Bool) → ℕ → Q → ℕ
unfolding sum_below
many_from δ a test zero q = cond (test q) 1 0
many_from δ a test (suc n) q = sum_below a (λ l. many_from δ a test n (δ q l))

module _ (x : Automaton) (L : ℕ) where
  -- how many words of n letters are accepted
  unfoldable pub accepted_many : ℕ → ℕ
  unfolding many_from behind accepts_set live_set
  accepted_many n = many_from (behind x L) (letters x) (accepts_set x L) n (live_set x L [])

  -- how many words of n letters are not
  unfoldable pub rejected_many : ℕ → ℕ
  unfolding many_from behind accepts_set live_set
  rejected_many n = many_from (behind x L) (letters x) (λ S. not (accepts_set x L S)) n (live_set x L [])

-- ---- what makes it right, with no algorithm in sight
-- a word of n letters of x that x accepts
pub record AcceptedOf (x : Automaton) (n : ℕ) (w : List ℕ) : Type 0 where
  pub long : length w ≡ n
  pub over : Over (letters x) w
  pub accepts : Accepts x w

-- a word of n letters of x that x does not accept
pub record RejectedOf (x : Automaton) (n : ℕ) (w : List ℕ) : Type 0 where
  pub long : length w ≡ n
  pub over : Over (letters x) w
  pub rejects : ¬ Accepts x w
