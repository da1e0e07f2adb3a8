-- Telling: a block that tells plain arcs tells them still where words elsewhere were written, and its first row is the live set of the
-- empty word.
use mathlib.Core.Path.{◌≡◌, refl}
use mathlib.Core.Logic.{◌↔◌}
use mathlib.Core.Bool.{Bool}
use mathlib.Core.List.{List, Memᴰ, []}
use Prim.Native.Nat.{◌<◌, ◌≤◌, ℕ}
use native.Mathlib.Omega.{arith}
use lib.Dec.{T, eqb, eqb→eq}
use Rattle.automata.specs.Automaton.{Run}
use Rattle.automata.specs.Live.{Moves, PlainArc, epsilon_closure, live, live_from, table}
use Rattle.automata.proofs.Laws.{epsilon_closure-closed, epsilon_closure-iff, in_table, length-rounds, length-table, run-below}
use Rattle.word_layout.specs.declared.Block.{Block}
use Rattle.word_sets.specs.Sets.{ε_closed_set, view}
use Rattle.word_sets.proofs.Laws.{view-is}
use Rattle.word_rows.specs.Rows.{related, row}
use Rattle.table_sets.specs.Stepping.{BySource, Tells}
use Rattle.table_sets.proofs.BlockFrame.{SameBlock, held_same, list-kept, related-kept, starts-kept}

-- where all its arcs are listed, they are by their sources
pub tells-listed : {letters : ℕ} {arcs : List PlainArc} {w : List ℕ} {block : Block} → Tells letters arcs w block → block.plain ≤ 2048 → BySource w block
tells-listed t = t.listed

-- words elsewhere were written
pub tells-kept : {letters : ℕ} {arcs : List PlainArc} {w w' : List ℕ} {block : Block} → SameBlock block.base w w' → Tells letters arcs w block → Tells letters arcs w' block
tells-kept b t = record {
  some = t.some;
  few = t.few;
  within = t.within;
  rows = λ i j h. rw (related-kept b i j (omega (arith, t.few))) (t.rows i j h);
  listed = λ m. starts-kept b (t.listed m);
  held = λ m. held_same (λ i l j g. list-kept b i (t.listed m) g refl refl l j) (t.held m);
}

-- where row 0 has what runs of empty moves lead to from configuration 0, it is the live set of the empty word
row-live : (k : ℕ) (arcs : List PlainArc) (w : List ℕ) (base : ℕ) → 0 < k → ((a : PlainArc) → Memᴰ a arcs → a.target < k)
    → ((i j : ℕ) → i < k → T (related w base i j) ↔ Run (Moves arcs) i [] j) → (view k (row w base 0) ≡ live k arcs []) × ε_closed_set k arcs (row w base 0)
unfolding related epsilon_closure live live_from
row-live k arcs w base pos inside rows = (is, (λ j t. run-below k arcs inside pos ((rows 0 j pos).0 t), rw is (epsilon_closure-closed k arcs inside first (length-table k (eqb 0)))))
  where
    first : List Bool
    first = table k (eqb 0)

    is : view k (row w base 0) ≡ epsilon_closure k arcs (table k (eqb 0))
    is = view-is k (row w base 0) (epsilon_closure k arcs first) (length-rounds k arcs inside k first (length-table k (eqb 0))) (λ j h. (
      λ t. (epsilon_closure-iff k arcs inside first j (length-table k (eqb 0))).1 (0, (in_table k (eqb 0) 0).1 (pos, tt), (rows 0 j pos).0 t),
      λ t. let q = (epsilon_closure-iff k arcs inside first j (length-table k (eqb 0))).0 t in
          let e : 0 ≡ q.0 = eqb→eq 0 q.0 ((in_table k (eqb 0) q.0).0 q.1).1 in
          (rows 0 j pos).1 (rw (← e) at q.2),
    ))

pub tells-start : {letters : ℕ} {arcs : List PlainArc} {w : List ℕ} {block : Block} → Tells letters arcs w block
    → (view block.count (row w block.base 0) ≡ live block.count arcs []) × ε_closed_set block.count arcs (row w block.base 0)
tells-start {arcs = arcs} {w} {block} t = row-live block.count arcs w block.base t.some t.within t.rows
