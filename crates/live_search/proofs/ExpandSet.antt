-- ExpandSet: a step from the set of a row leaves, for each letter, the set behind it, which is both sets of the pair behind that letter.
use Rattle.std.proofs.Common.{Option}
use mathlib.Core.Path.{◌∙◌, ◌≡◌, ap, subst, sym}
use mathlib.Core.List.{List, map}
use mathlib.Core.Option.{some}
use Prim.Native.Nat.{◌-◌, ◌<◌, ◌≤◌, ℕ}
use native.Mathlib.Omega.{arith}
use lib.ListN.{get_elem?}
use Rattle.automata.specs.Exploration.{add_all}
use Rattle.automata.specs.Lists.{Each, count_from}
use Rattle.automata.specs.Live.{PlainArc, by_letter}
use Rattle.automata.specs.Pairs.{Pair}
use Rattle.automata.specs.Search.{Entry, next_entries}
use Rattle.automata.proofs.Laws.{count_from-iff, mem_each}
use Rattle.file_fields.specs.declared.Counts.{Counts}
use Rattle.word_sets.specs.Sets.{view, ε_closed_set}
use Rattle.word_layout.specs.declared.Block.{Block}
use Rattle.word_layout.specs.declared.SetTable.{SetTable}
use Rattle.table_live.specs.Steps.{Outgoing}
use Rattle.live_table.specs.Entries.{Holds, Side, alike, along, on_entry}
use Rattle.live_table.specs.SetRows.{left_row}
use Rattle.live_letters.specs.Meeting.{Behind, Grows, Outcome, Table}
use Rattle.live_letters.proofs.Laws.{step-behind}
use Rattle.live_table.proofs.Laws.{same_row}
use Rattle.live_search.specs.Exploring.{Twins}

-- what a step from the set u, of the automaton of the block, tells of the sets that it leaves for each letter
abbrev pub Stepped : (file : List ℕ) (c : Counts) (w : List ℕ) (block : Block) (u : List ℕ) (sets : ℕ → List ℕ) → Type 0
Stepped file c w block u sets =
    (arcs : List PlainArc) → Outgoing file c w block arcs → ε_closed_set block.count arcs u → (l : ℕ) → l < c.letters
    → (view block.count (sets l) ≡ by_letter block.count arcs (view block.count u) l) × ε_closed_set block.count arcs (sets l)

module _ {file : List ℕ} {c : Counts} {w : List ℕ} {block : Block} {tab : SetTable} {u : List ℕ} (sets : ℕ → List ℕ) (one : tab.sets ≡ 1) (i from : ℕ)
    (eu : u ≡ left_row tab w i) (f : Stepped file c w block u sets) where
  pub letters-behind : (x y : Side) (es : List (Entry Pair)) (e : Entry Pair) → Twins file c w block x y → Holds tab x y w from es → get_elem? es i ≡ some e
      → (l : ℕ) → l < c.letters → Behind x e.state.left l (sets l) × Behind y e.state.right l (sets l)
  letters-behind x y es e b h p l hl =
      let r = h.each i e p in
      let told = subst (λ (z : Side). Outgoing file c w block z.arcs) (sym b.twin) b.told in (
        step-behind x e.state.left l (sets l) b.size eu r.left r.settled₁ (λ z. f x.arcs b.told z l hl),
        step-behind y e.state.right l (sets l) (ap (λ (z : Side). z.size) b.twin ∙ b.size) (eu ∙ sym (same_row tab one w i)) r.right r.settled₂ (λ z. f y.arcs told z l hl),
      )
