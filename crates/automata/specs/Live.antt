-- Live: the live set of a word, over numbered configurations and plain arcs (document 01, 'Runs and slips').
-- A set of numbers below k is a list of k tests, so two sets are equal just if they have the same members.
use Prim.Native.Nat.{ℕ, zero, suc}
use mathlib.Core.List.{List, [], ◌∷◌, Memᴰ}
use Rattle.std.proofs.Math.Option.{Option, none, some}
use Rattle.std.specs.Prelude.{Bool, true, false, ◌&&◌, ◌||◌, T, eqb, get_or}
use Rattle.automata.specs.Lists.{any, same_letter}

-- an arc between numbered configurations, with no operations
pub record PlainArc : Type 0 where
  pub source : ℕ
  pub letter : Option ℕ
  pub target : ℕ

-- a plain arc leads from i to j by the letter α, or by ε
abbrev pub Moves : List PlainArc → ℕ → Option ℕ → ℕ → Type 0
Moves arcs i α j = Memᴰ (record { source = i; letter = α; target = j }) arcs

-- the test of each number below k
unfoldable pub table : ℕ → (ℕ → Bool) → List Bool
table zero f = []
table (suc k) f = f 0 ∷ table k (λ i. f (suc i))

-- is j in the set S?
abbrev pub in? : List Bool → ℕ → Bool
in? S j = get_or S j false

-- no empty move leaves S
abbrev pub ε_closed : List PlainArc → List Bool → Type 0
ε_closed arcs S = (i j : ℕ) → T (in? S i) → Moves arcs i none j → T (in? S j)

-- how many members S has
unfoldable pub count : List Bool → ℕ
count [] = 0
count (true ∷ S) = suc (count S)
count (false ∷ S) = count S

-- have two sets a member in common?
unfoldable pub meets : List Bool → List Bool → Bool
meets [] F = false
meets (x ∷ S) [] = false
meets (x ∷ S) (y ∷ F) = (x && y) || meets S F

-- does an arc with the letter α lead from S to j?
unfoldable pub hit : List PlainArc → Option ℕ → List Bool → ℕ → Bool
unfolding any same_letter
hit arcs α S j = any (λ a. same_letter a.letter α && eqb a.target j && in? S a.source) arcs

module _ (k : ℕ) (arcs : List PlainArc) where
  -- what arcs with the letter α lead to from S
  unfoldable pub step : Option ℕ → List Bool → List Bool
  unfolding table hit
  step α S = table k (hit arcs α S)

  -- S, and what one empty move leads to from there
  unfoldable pub once : List Bool → List Bool
  unfolding table hit
  once S = table k (λ j. in? S j || hit arcs none S j)

  -- S, and what at most n empty moves lead to from there
  unfoldable pub rounds : ℕ → List Bool → List Bool
  unfolding once
  rounds zero S = S
  rounds (suc n) S = once (rounds n S)

  -- S, and what empty moves lead to from there: k rounds are enough
  unfoldable pub epsilon_closure : List Bool → List Bool
  unfolding rounds
  epsilon_closure S = rounds k S

  -- from S by one letter, and empty moves after it
  unfoldable pub by_letter : List Bool → ℕ → List Bool
  unfolding epsilon_closure step
  by_letter S a = epsilon_closure (step (some a) S)

  -- from S by a word, letter after letter
  unfoldable pub live_from : List Bool → List ℕ → List Bool
  unfolding by_letter
  live_from S [] = S
  live_from S (a ∷ w) = live_from (by_letter S a) w

  -- the live set of a word, from configuration 0
  unfoldable pub live : List ℕ → List Bool
  unfolding live_from
  live w = live_from (epsilon_closure (table k (eqb 0))) w
