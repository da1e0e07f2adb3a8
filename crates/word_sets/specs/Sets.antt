-- Sets: a set of numbers below 256 is four words of 64 bits. Number k is digit k % 64 of word k / 64.
use Rattle.std.specs.Prelude.{Bool, List, ℕ, ◌/◌, ◌%◌, ◌^◌, ◌≤◌, ◌<◌, T, eqb, get_or}
use Rattle.automata.specs.Live.{ε_closed, PlainArc, table}

-- is digit k of the word x a 1?
unfoldable pub bit : ℕ → ℕ → Bool
bit x k = eqb (x / 2 ^ k % 2) 1

-- is k in the set s?
unfoldable pub in_set : List ℕ → ℕ → Bool
in_set s k = bit (get_or s (k / 64) 0) (k % 64)

-- the set as the list of the tests of the numbers below n: what a live set is by definition
unfoldable pub view : ℕ → List ℕ → List Bool
view n s = table n (in_set s)

-- every member is below n
abbrev pub Within : ℕ → List ℕ → Type 0
Within n s = (j : ℕ) → T (in_set s j) → j < n

-- a set of numbers below n that no empty move leaves, as live sets are
abbrev pub ε_closed_set : ℕ → List PlainArc → List ℕ → Type 0
ε_closed_set n arcs s = Within n s × ε_closed arcs (view n s)

-- r is the least member from c on, or 256 where there is none
pub record Next (s : List ℕ) (c r : ℕ) : Type 0 where
  pub low : c ≤ r
  pub high : r ≤ 256
  pub member : r < 256 → T (in_set s r)
  pub none : (j : ℕ) → c ≤ j → j < r → ¬ T (in_set s j)
