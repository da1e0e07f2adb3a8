-- Spelled: the word of a row, spelled by its parents; and which of two automata alone accepts the words of a pair.
use Rattle.std.specs.Prelude.{◌≡◌, Bool, cond, false, not, true, List, [], ◌∷◌, ◌++◌, None, Option, Some, ℕ, suc, zero, ◌≤◌, ◌<◌, eqb, length}
use Rattle.std.proofs.Math.ListN.{get_elem?}
use Rattle.std.proofs.Math.Option.{none}
use Rattle.automata.specs.Live.{meets}
use Rattle.automata.specs.Pairs.{Pair}
use Rattle.automata.specs.Search.{Entry, first_of}
use Rattle.live_table.specs.Entries.{Holds, Side, Tree, letter_of, parent_of}
use Rattle.word_layout.specs.Layout.{heads_at}
use Rattle.word_layout.specs.declared.SetTable.{SetTable}
use Rattle.word_sets.specs.Sets.{view}

-- up the parents from row k, f of them at most: as many as k are enough
unfoldable pub spelled : SetTable → List ℕ → ℕ → ℕ → List ℕ
spelled tab w zero k = []
spelled tab w (suc f) k = cond (eqb k 0) [] (spelled tab w f (parent_of tab w k) ++ letter_of tab w k ∷ [])

-- the word by which row k was met
abbrev pub word_of : SetTable → List ℕ → ℕ → List ℕ
word_of tab w k = spelled tab w k k

-- which of two facts holds alone: 1, 2, or 0 where both or neither hold
unfoldable pub alone : Bool → Bool → ℕ
alone true true = 0
alone true false = 1
alone false true = 2
alone false false = 0

-- which automaton alone accepts the words of a pair; F and G are the final sets
unfoldable pub taker_by : (F G : List Bool) → Pair → ℕ
unfolding alone meets
taker_by F G p = alone (meets p.left F) (meets p.right G)

-- does exactly one automaton accept the words of a pair?
abbrev pub differs_by : (F G : List Bool) → Pair → Bool
differs_by F G p = not (eqb (taker_by F G p) 0)

-- row i is the first of n rows that differs, or none of them does; f and g are the final sets
abbrev pub FirstDifference : (tab : SetTable) (w : List ℕ) (n : ℕ) (f g : List ℕ) → Option ℕ → Type 0
FirstDifference tab w n f g (Some i) = (i < n) × ((x y : Side) (es : List (Entry Pair)) → Holds tab x y w n es → first_of (λ e. differs_by (view x.size f) (view y.size g) e.state) es ≡ get_elem? es i)
FirstDifference tab w n f g None = (x y : Side) (es : List (Entry Pair)) → Holds tab x y w n es → first_of (λ e. differs_by (view x.size f) (view y.size g) e.state) es ≡ none

-- the walk up the parents can be taken from row k, one of n: it stays in the words, and its letters are among a
pub record Climb (tab : SetTable) (w : List ℕ) (a n k : ℕ) : Type 0 where
  pub long : heads_at tab ≤ length w
  pub most : n ≤ 512
  pub low : k < n
  pub tree : Tree a tab w n
