-- Entries: a table of live sets in the words, against the exploration by words that defines it (document 01, 'Comparing'; crate
-- automata, specs/Search.antt and specs/Pairs.antt).
use Rattle.std.specs.Prelude.{◌≡◌, ◌⊎◌, List, [], ◌∷◌, ◌++◌, Bool, ℕ, ◌/◌, ◌%◌, ◌<◌, length}
use Rattle.std.proofs.Math.Option.{some}
use Rattle.std.proofs.Math.ListN.{get_elem?}
use Rattle.automata.specs.Automaton.{Automaton}
use Rattle.automata.specs.Live.{PlainArc, by_letter, live}
use Rattle.automata.specs.Unfolding.{configurations, plain_arcs}
use Rattle.automata.specs.Search.{Entry}
use Rattle.automata.specs.Pairs.{Pair, same_pair}
use Rattle.word_fields.specs.Fields.{field}
use Rattle.word_sets.specs.Sets.{view, ε_closed_set}
use Rattle.word_layout.specs.Layout.{parents_at}
use Rattle.word_layout.specs.declared.SetTable.{SetTable}
use Rattle.live_table.specs.SetRows.{left_row, right_row}

-- plain arcs between the numbers below `size`
pub record Side : Type 0 where
  pub size : ℕ
  pub arcs : List PlainArc

-- an automaton as a side: its configurations, L at most, and its plain arcs
abbrev pub side_of : Automaton → ℕ → Side
side_of x L = record { size = length (configurations x L); arcs = plain_arcs x L }

-- the pair behind one letter more
unfoldable pub along : Side → Side → Pair → ℕ → Pair
unfolding by_letter
along s t p l = record { left = by_letter s.size s.arcs p.left l; right = by_letter t.size t.arcs p.right l }

-- the pair of the empty word
unfoldable pub begin : Side → Side → Pair
unfolding live
begin s t = record { left = live s.size s.arcs []; right = live t.size t.arcs [] }

-- the entry behind one letter more: its pair, and its word with the letter behind
abbrev pub on_entry : Side → Side → Entry Pair → ℕ → Entry Pair
on_entry s t e l = record { state = along s t e.state l; word = e.word ++ l ∷ [] }

-- entries are told apart by their pairs, not by their words
abbrev pub alike : Entry Pair → Entry Pair → Bool
alike e f = same_pair e.state f.state

-- the parent of row i
abbrev pub parent_of : SetTable → List ℕ → ℕ → ℕ
parent_of tab w i = field w (parents_at tab) i / 64

-- the letter by which row i was met from its parent
abbrev pub letter_of : SetTable → List ℕ → ℕ → ℕ
letter_of tab w i = field w (parents_at tab) i % 64

-- the word of entry i is that of its parent and one letter more
pub record Child (tab : SetTable) (w : List ℕ) (es : List (Entry Pair)) (i : ℕ) (v : List ℕ) : Type 0 where
  pub later : 0 < i
  pub parent : Entry Pair
  pub stands : get_elem? es (parent_of tab w i) ≡ some parent
  pub spells : v ≡ parent.word ++ letter_of tab w i ∷ []

-- row i of the table is the entry e
pub record Row (tab : SetTable) (s t : Side) (w : List ℕ) (es : List (Entry Pair)) (i : ℕ) (e : Entry Pair) : Type 0 where
  pub left : view s.size (left_row tab w i) ≡ e.state.left
  pub right : view t.size (right_row tab w i) ≡ e.state.right
  pub settled₁ : ε_closed_set s.size s.arcs (left_row tab w i)
  pub settled₂ : ε_closed_set t.size t.arcs (right_row tab w i)
  pub spelled : ((i ≡ 0) × (e.word ≡ [])) ⊎ Child tab w es i e.word

-- the first n rows of the table are the entries
pub record Holds (tab : SetTable) (s t : Side) (w : List ℕ) (n : ℕ) (es : List (Entry Pair)) : Type 0 where
  pub many : length es ≡ n
  pub each : (i : ℕ) (e : Entry Pair) → get_elem? es i ≡ some e → Row tab s t w es i e

-- a parent stands before its child, and its letter is one of a, whatever the words stand for
abbrev pub Tree : ℕ → SetTable → List ℕ → ℕ → Type 0
Tree a tab w n = (p : ℕ) → 0 < p → p < n → (parent_of tab w p < p) × (letter_of tab w p < a)
