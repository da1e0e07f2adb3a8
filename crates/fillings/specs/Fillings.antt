-- Fillings: a word of which each letter is known only to lie between two letter numbers, and the words that it can be (document 02,
-- change 7); and the states that these lead to. Over any states and any δ that says where a letter leads, with any test of which states are
-- the same; and last, what 23 counts: live sets of an automaton.
use Rattle.std.specs.Prelude.{◌≡◌, Bool, ◌||◌, ℕ, suc, ◌-◌, ◌≤◌, length}
use Rattle.std.proofs.Math.Bool.{false}
use mathlib.Core.List.{List, [], ◌∷◌, ◌++◌, flat_map, map}
use Rattle.std.proofs.Math.Dec.{ltb}
use Rattle.automata.specs.Automaton.{Automaton}
use Rattle.automata.specs.Counting.{MoreThan}
use Rattle.automata.specs.Exploration.{add_all}
use Rattle.automata.specs.Lists.{count_from}
use Rattle.automata.specs.Unfolding.{live_set}

-- a place of the word: its letter has a number from `low` to `high`, both included
pub record Range : Type 0 where
  pub low : ℕ
  pub high : ℕ

-- the place with these two
abbrev pub from_to : (low high : ℕ) → Range
from_to low high = record { low = low; high = high }

-- the letters of a range, ascending
abbrev pub letters_in : Range → List ℕ
letters_in r = count_from r.low (suc r.high - r.low)

-- w is a filling of the places: it has a letter of each range, one behind the other
abbrev pub Fills : List Range → List ℕ → Type 0
Fills [] [] = Unit {0}
Fills [] (l ∷ w) = ⊥
Fills (r ∷ rs) [] = ⊥
Fills (r ∷ rs) (l ∷ w) = (r.low ≤ l) × (l ≤ r.high) × Fills rs w

-- ---- where fillings lead, place after place
module _ {Q : Type 0} (same : Q → Q → Bool) (δ : Q → ℕ → Q) where
  -- the states behind one place more, each once: from each of those before it, by each letter of its range
  unfoldable pub behind_place : List Q → Range → List Q
  unfolding add_all flat_map count_from
  behind_place states r = add_all same [] (flat_map (λ q. map (δ q) (letters_in r)) states)

  -- the states behind all places
  unfoldable pub behind_places : List Q → List Range → List Q
  unfolding behind_place
  behind_places states [] = states
  behind_places states (r ∷ rs) = behind_places (behind_place states r) rs

  -- are there more than P behind one of the places?
  unfoldable pub many_behind : ℕ → List Q → List Range → Bool
  unfolding behind_place
  many_behind P states [] = false
  many_behind P states (r ∷ rs) = ltb P (length (behind_place states r)) || many_behind P (behind_place states r) rs

-- ---- with no algorithm in sight
-- S is the live set of a filling of the places
pub record FilledSet (x : Automaton) (L : ℕ) (rs : List Range) (S : List Bool) : Type 0 where
  pub word : List ℕ
  pub fills : Fills rs word
  pub is : live_set x L word ≡ S

-- behind one of the places there are more than P live sets: the fillings of the places up to it, a front of all, have more. Of no places at
-- all the empty word is the only filling, so where P is not 0 these are never too many
pub record ManyFilled (x : Automaton) (L P : ℕ) (rs : List Range) : Type 0 where
  pub front : List Range
  pub rest : List Range
  pub split : front ++ rest ≡ rs
  pub many : MoreThan (FilledSet x L front) P
