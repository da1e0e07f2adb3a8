-- LiveSets: the live sets of one automaton that words over its letters lead to, numbered in the order in which they are met.
-- Renders change 2 of document 02: 23 counts the live sets of words of every length. L is the limit on configurations; document 01's is 256.
use Rattle.std.specs.Prelude.{◌≡◌, ℕ, List, ◌++◌, Bool, length}
use Rattle.std.specs.Bool.{beq}
use Rattle.automata.specs.Automaton.{Automaton, letters}
use Rattle.automata.specs.Lists.{same_by}
use Rattle.automata.specs.Live.{by_letter, meets}
use Rattle.automata.specs.Search.{Over, met}
use Rattle.automata.specs.Unfolding.{configurations, final_set, live_set, plain_arcs}

-- have two sets the same members?
unfoldable pub same_set : List Bool → List Bool → Bool
unfolding same_by
same_set S R = same_by beq S R

module _ (x : Automaton) (L : ℕ) where
  -- the live set behind one letter more
  unfoldable pub behind : List Bool → ℕ → List Bool
  unfolding by_letter plain_arcs
  behind S l = by_letter (length (configurations x L)) (plain_arcs x L) S l

  -- are the words with this live set accepted?
  unfoldable pub accepts_set : List Bool → Bool
  unfolding final_set meets
  accepts_set S = meets S (final_set x (configurations x L))

  -- the live sets that words lead to from S, in number order, once n of them have been walked
  unfoldable pub live_sets : List Bool → ℕ → List (List Bool)
  unfolding same_set behind met
  live_sets S n = met same_set behind (letters x) S n

  -- ---- with no algorithm in sight: R is the live set of the word v and some letters more
  pub record SetAfter (v : List ℕ) (R : List Bool) : Type 0 where
    pub word : List ℕ
    pub over : Over (letters x) word
    pub is : live_set x L (v ++ word) ≡ R
