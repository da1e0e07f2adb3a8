-- FirstPair: the pair of the empty word, put into the empty table, is the entry that the exploration starts from.
use mathlib.Core.Path.{◌≡◌}
use mathlib.Core.List.{List, [], ◌∷◌}
use Prim.Native.Nat.{ℕ}
use Rattle.automata.specs.Live.{PlainArc, live}
use Rattle.automata.specs.Search.{origin}
use Rattle.word_sets.specs.Sets.{ε_closed_set, view}
use Rattle.table_sets.specs.Stepping.{Tells}
use Rattle.word_layout.specs.Layout.{pair_table}
use Rattle.word_layout.specs.declared.Block.{Block}
use Rattle.live_table.specs.Entries.{Holds, Side, begin}
use Rattle.live_table.specs.SetRows.{Added}
use Rattle.live_letters.proofs.Laws.{holds-start}
use Rattle.compare_search.specs.Searching.{Both}

-- the set u is the live set of the empty word of every block that tells plain arcs
abbrev pub Starting : (w : List ℕ) (block : Block) (u : List ℕ) → Type 0
Starting w block u = (letters : ℕ) (arcs : List PlainArc) → Tells letters arcs w block → (view block.count u ≡ live block.count arcs []) × ε_closed_set block.count arcs u

pub first-pair : {a : ℕ} {one two : Block} (s t : Side) {w w' u v : List ℕ} → Both a s t w one two → Starting w one u → Starting w two v → Added pair_table w w' 0 u v 0
    → Holds pair_table s t w' 1 (origin (begin s t) ∷ [])
unfolding begin
first-pair {a} s t b eu ev d = holds-start s t (begin s t) (rw b.size₁ (eu a s.arcs b.tells₁)) (rw b.size₂ (ev a t.arcs b.tells₂)) d
