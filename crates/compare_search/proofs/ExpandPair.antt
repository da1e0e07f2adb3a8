-- ExpandPair: a step from each set of a pair leaves, for each letter, the two sets of the pair behind it.
use Rattle.std.proofs.Common.{Option}
use mathlib.Core.Path.{◌≡◌}
use mathlib.Core.Logic.{inl}
use mathlib.Core.List.{List, [], ◌∷◌}
use mathlib.Core.Option.{some}
use Prim.Native.Nat.{◌+◌, ◌<◌, ◌≤◌, ℕ}
use native.Mathlib.Omega.{arith}
use lib.ListN.{get_elem?}
use Rattle.automata.specs.Exploration.{add_all}
use Rattle.automata.specs.Live.{PlainArc, by_letter}
use Rattle.automata.specs.Pairs.{Pair}
use Rattle.automata.specs.Search.{Entry, next_entries}
use Rattle.word_fields.specs.Frame.{Kept}
use Rattle.word_fields.proofs.Laws.{kept_then, kept-wider}
use Rattle.word_sets.specs.Sets.{ε_closed_set, view}
use Rattle.word_rows.proofs.Laws.{row_below}
use Rattle.table_sets.specs.Stepping.{Tells, set_of}
use Rattle.table_sets.proofs.Laws.{block-kept, tells-kept}
use Rattle.word_layout.specs.Layout.{first_block, first_sets, pair_table, second_sets, table_end}
use Rattle.word_layout.specs.declared.Block.{Block}
use Rattle.word_layout.specs.declared.SetTable.{SetTable}
use Rattle.live_table.specs.Entries.{Holds, Side, alike, along}
use Rattle.live_table.specs.SetRows.{left_row, right_row}
use Rattle.live_letters.specs.Meeting.{Grows, LetterSets, Outcome, Table}
use Rattle.live_letters.proofs.Laws.{behind-same, set_same, step-behind}
use Rattle.compare_search.specs.Searching.{Both, Ready}

-- what a step from the set u, over a block of w, tells of the sets that it leaves for each letter
abbrev pub Stepped : (w : List ℕ) (block : Block) (u : List ℕ) (sets : ℕ → List ℕ) → Type 0
Stepped w block u sets =
    (letters : ℕ) (arcs : List PlainArc) → Tells letters arcs w block → letters ≤ 64 → ε_closed_set block.count arcs u → (l : ℕ) → l < letters
    → (view block.count (sets l) ≡ by_letter block.count arcs (view block.count u) l) × ε_closed_set block.count arcs (sets l)

module _ {a : ℕ} {one two : Block} {w w₁ w₂ u v : List ℕ} (i from met₁ met₂ : ℕ) (ready : Ready a w one two)
    (eu : u ≡ left_row pair_table w i) (ev : v ≡ right_row pair_table w i)
    (k₁ : Kept first_sets (first_sets + 256) w w₁) (f₁ : Stepped w one u (set_of w₁ first_sets met₁))
    (k₂ : Kept second_sets (second_sets + 256) w₁ w₂) (f₂ : Stepped w₁ two v (set_of w₂ second_sets met₂)) where
  pub letter-sets : (s t : Side) (es : List (Entry Pair)) (e : Entry Pair) → Both a s t w one two → Holds pair_table s t w from es → get_elem? es i ≡ some e
      → LetterSets a s t w₂ (first_sets ∷ second_sets ∷ []) (met₁ ∷ met₂ ∷ []) e.state
  letter-sets s t es e b h p l hl =
      let r = h.each i e p in (
        behind-same s e.state.left l (set_same w₁ w₂ first_sets met₁ l (row_below first_sets l k₂ (omega (arith, ready.few))))
            (step-behind s e.state.left l (set_of w₁ first_sets met₁ l) b.size₁ eu r.left r.settled₁ (λ x. f₁ a s.arcs b.tells₁ ready.few x l hl)),
        step-behind t e.state.right l (set_of w₂ second_sets met₂ l) b.size₂ ev r.right r.settled₂
            (λ x. f₂ a t.arcs (tells-kept (block-kept k₁ (inl (omega (arith, ready.second)))) b.tells₂) ready.few x l hl),
      )

-- both steps write between the table and the blocks
pub both-steps : {w w₁ w₂ : List ℕ} → Kept first_sets (first_sets + 256) w w₁ → Kept second_sets (second_sets + 256) w₁ w₂ → Kept first_sets first_block w w₂
both-steps k₁ k₂ = kept_then (kept-wider (omega arith) (omega arith) k₁) (kept-wider (omega arith) (omega arith) k₂)

-- what meeting all letters from pair i of a table tells
abbrev pub LettersMet : (a i from met₁ met₂ : ℕ) (w w' : List ℕ) (r : Option ℕ) → SetTable → Type 0
LettersMet a i from met₁ met₂ w w' r tab =
    Kept tab.rows (table_end tab) w w' × ((i < from → Table a tab w from → Grows a tab w' from r)
    × ((s t : Side) (es : List (Entry Pair)) (e : Entry Pair) → LetterSets a s t w (first_sets ∷ second_sets ∷ []) (met₁ ∷ met₂ ∷ []) e.state → Holds tab s t w from es → get_elem? es i ≡ some e
    → Outcome 512 tab s t w' (add_all alike es (next_entries (along s t) a e)) r))
