-- BlockFrame: words written elsewhere leave a block as it was, and what it stands for.
use mathlib.Core.Path.{◌∙◌, ◌≡◌, ap, refl, subst, sym}
use mathlib.Core.Logic.{◌↔◌, ◌⊎◌, ⊎_elim}
use mathlib.Core.Bool.{Bool, cond, false, true}
use mathlib.Core.List.{List, Memᴰ}
use Prim.Native.Nat.{◌%◌, ◌*◌, ◌+◌, ◌/◌, ◌<◌, ◌≤◌, ℕ}
use native.Mathlib.Omega.{arith}
use borrow.Author.Tests.{ltb-true}
use lib.Dec.{T, ltb}
use lib.ListN.{get_or, length}
use Rattle.automata.specs.Automaton.{stay}
use Rattle.automata.specs.Live.{PlainArc}
use Rattle.automata.proofs.Laws.{run-below}
use Rattle.word_layout.specs.Layout.{arcs_at, block_end, starts_at}
use Rattle.word_fields.specs.Fields.{field}
use Rattle.word_fields.specs.Frame.{Kept, KeptBut}
use Rattle.word_fields.proofs.Laws.{field-same}
use Rattle.word_sets.specs.Sets.{in_set}
use Rattle.word_rows.specs.Rows.{related}
use Rattle.word_rows.proofs.Laws.{row_same}
use Rattle.table_sets.specs.Stepping.{Among, FromList, Held, Reached, Room, Starts, end_at, start_at}

-- the words of the block are as they were
pub record SameBlock (base : ℕ) (w w' : List ℕ) : Type 0 where
  pub long : length w' ≡ length w
  pub words : (i : ℕ) → base ≤ i → i < block_end base → get_or w' i 0 ≡ get_or w i 0

-- what was written stands below the block or above it
pub block-kept : {base a b : ℕ} {w w' : List ℕ} → Kept a b w w' → (b ≤ base) ⊎ (block_end base ≤ a) → SameBlock base w w'
block-kept k s = record { long = k.long; words = λ i l h. ⊎_elim (λ u. k.above i (omega arith)) (λ u. k.below i (omega arith)) s }

-- two parts were written, the first below the block, the second below it or above it
pub block-but : {base a b c d : ℕ} {w w' : List ℕ} → KeptBut a b c d w w' → b ≤ base → (block_end base ≤ c) ⊎ (d ≤ base) → SameBlock base w w'
block-but k h s = record { long = k.long; words = λ i l g. ⊎_elim (λ u. k.between i (omega arith) (omega arith)) (λ u. k.above i (omega arith)) s }

-- an end of the listed arcs is a place of the list
pub end_below : {w : List ℕ} {base count plain : ℕ} (c : ℕ) → Starts w base count plain → end_at w base count plain c ≤ plain
unfolding end_at
end_below {w} {base} {count} {plain} c s = go (ltb (c + 1) count) refl
  where
    go : (b : Bool) → ltb (c + 1) count ≡ b → cond (ltb (c + 1) count) (start_at w base (c + 1)) plain ≤ plain
    go true e = rw e (s.each (c + 1) (ltb-true (c + 1) count e))
    go false e = rw e (omega arith)

pub end-few : {w : List ℕ} {base count plain : ℕ} (c : ℕ) → Starts w base count plain → end_at w base count plain c ≤ 2048
end-few c s = omega (arith, end_below c s, s.less)

module _ {w w' : List ℕ} {base : ℕ} (b : SameBlock base w w') where
  pub arc-kept : (i : ℕ) → i < 2048 → field w' (arcs_at base) i ≡ field w (arcs_at base) i
  arc-kept i h = field-same w w' (arcs_at base) i (b.words (arcs_at base + i / 4) (omega arith) (omega arith))

  pub start-kept : (i : ℕ) → i < 256 → start_at w' base i ≡ start_at w base i
  unfolding start_at
  start-kept i h = field-same w w' (starts_at base) i (b.words (starts_at base + i / 4) (omega arith) (omega arith))

  pub end_kept : (count plain i : ℕ) → count ≤ 256 → end_at w' base count plain i ≡ end_at w base count plain i
  unfolding end_at
  end_kept count plain i h = go (ltb (i + 1) count) refl
    where
      go : (t : Bool) → ltb (i + 1) count ≡ t → cond (ltb (i + 1) count) (start_at w' base (i + 1)) plain ≡ cond (ltb (i + 1) count) (start_at w base (i + 1)) plain
      go true e = ap (λ (x : ℕ). cond (ltb (i + 1) count) x plain) (start-kept (i + 1) (omega (arith, ltb-true (i + 1) count e)))
      go false e = rw e

  pub related-kept : (t j : ℕ) → t < 256 → related w' base t j ≡ related w base t j
  unfolding related
  related-kept t j h = ap (λ (s : List ℕ). in_set s j) (row_same w w' base t b.long (λ q l. b.words (base + 4 * t + q) (omega arith) (omega arith)))

  pub room-kept : {acc : ℕ} → Room w base acc → Room w' base acc
  room-kept r = record { block = omega (arith, r.block, b.long); rows = omega (arith, r.rows, b.long); apart = r.apart }

  pub starts-kept : {count plain : ℕ} → Starts w base count plain → Starts w' base count plain
  starts-kept {count} {plain} s = record { few = s.few; less = s.less; zero = λ h. start-kept 0 (omega arith) ∙ s.zero h; each = λ c h. omega (arith, start-kept c (omega (arith, s.few)), s.each c h); rises = λ c h. omega (arith, start-kept c (omega (arith, s.few)), end_kept count plain c s.few, s.rises c h) }

  pub among-kept : (from to p j : ℕ) → to ≤ 2048 → Among w' base from to p j ↔ Among w base from to p j
  among-kept from to p j h = (
    λ a. let g = a.high in
        let e = arc-kept a.at (omega arith) in
        record {
          at = a.at;
          low = a.low;
          high = a.high;
          letter = ap (λ (x : ℕ). x / 256) (sym e) ∙ a.letter;
          leads = subst T (related-kept (field w (arcs_at base) a.at % 256) j (omega arith)) (subst (λ (x : ℕ). T (related w' base (x % 256) j)) e a.leads);
        },
    λ a. let g = a.high in
        let e = arc-kept a.at (omega arith) in
        record {
          at = a.at;
          low = a.low;
          high = a.high;
          letter = ap (λ (x : ℕ). x / 256) e ∙ a.letter;
          leads = subst (λ (x : ℕ). T (related w' base (x % 256) j)) (sym e) (subst T (sym (related-kept (field w (arcs_at base) a.at % 256) j (omega arith))) a.leads);
        },
  )

  -- the arcs that a configuration has listed, from `from` to before `to`
  pub list-kept : {count plain from to : ℕ} (c : ℕ) → Starts w base count plain → c < count → from ≡ start_at w' base c → to ≡ end_at w' base count plain c
      → (p j : ℕ) → Among w' base from to p j ↔ FromList w base count plain c p j
  list-kept {count} {plain} {from} {to} c s h ef et p j =
      let start : from ≡ start_at w base c = ef ∙ start-kept c (omega (arith, s.few)) in
      let end : to ≡ end_at w base count plain c = et ∙ end_kept count plain c s.few in
      rw (← start, ← end) (among-kept from to p j (omega (arith, end, end-few c s)))

-- what tells each configuration's plain arcs, tells the plain arcs
pub held-each : {n letters : ℕ} {arcs : List PlainArc} {From : ℕ → ℕ → ℕ → Type 0} → ((a : PlainArc) → Memᴰ a arcs → a.target < n)
    → ((s l j : ℕ) → s < n → l < letters → From s l j ↔ Reached arcs s l j) → Held n letters arcs From
held-each inside f = record { within = inside; sound = λ s l j h g. (f s l j h g).0; full = λ s l j h g r. (s, stay, (f s l j h g).1 r) }

-- what tells the plain arcs tells them still where it says the same of other words
pub held_same : {count letters : ℕ} {arcs : List PlainArc} {From From' : ℕ → ℕ → ℕ → Type 0} → ((s l j : ℕ) → s < count → From' s l j ↔ From s l j) → Held count letters arcs From → Held count letters arcs From'
held_same {count} {arcs = arcs} f held = record {
  within = held.within;
  sound = λ s l j h g a. held.sound s l j h g ((f s l j h).0 a);
  full = λ s l j h g r. let q = held.full s l j h g r in (q.0, q.1, (f q.0 l j (run-below count arcs held.within h q.1)).1 q.2);
}
