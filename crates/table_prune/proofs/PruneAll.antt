-- PruneAll: of each configuration's listed arcs those that add something are left, one configuration after the other.
use mathlib.Core.Path.{◌∙◌, ◌≡◌, ap, refl, subst, sym}
use mathlib.Core.Logic.{◌↔◌, ◌⊎◌, inl, inr, ⊎_elim}
use mathlib.Core.Bool.{Bool, cond, false, true}
use mathlib.Core.List.{List}
use Prim.Native.Nat.{◌+◌, ◌/◌, ◌<◌, ◌≤◌, ℕ}
use native.Mathlib.Decide.{ℕ_discrete}
use native.Mathlib.Omega.{arith}
use borrow.Author.Tests.{eq-eqb, le-ltb, lt-ltb, ltb-true, ne_eqb}
use lib.Dec.{T, eqb, ltb}
use Rattle.automata.specs.Automaton.{stay}
use Rattle.automata.proofs.Laws.{joined, run-below}
use Rattle.word_layout.specs.Layout.{arcs_at, block_end, starts_at}
use Rattle.word_fields.specs.Fields.{field}
use Rattle.word_fields.specs.Frame.{Kept, KeptBut}
use Rattle.word_fields.proofs.Laws.{but_high, but_low, but_same, but_then, but_wider, field-same}
use Rattle.word_sets.specs.Sets.{in_set}
use Rattle.word_rows.specs.Rows.{related}
use Rattle.automata.specs.Live.{PlainArc}
use Rattle.word_layout.specs.declared.Block.{Block}
use Rattle.table_sets.specs.Stepping.{Among, BySource, FromList, Held, Room, Starts, Tells, end_at, set_of, start_at}
use Rattle.table_prune.specs.Pruning.{Covered}
use Rattle.table_sets.proofs.Laws.{SameBlock, arc-kept, block-kept, end_below, list-kept, none-met, start-kept, starts-kept, related-kept}
use Rattle.table_prune.proofs.PruneOne.{SameRows, among_same, rows-kept}

-- words written elsewhere cover what they covered
Covered-kept : {base : ℕ} {w w' : List ℕ} → SameBlock base w w' → {count plain i p j : ℕ} → Starts w base count plain → i < 256 → Covered w base count plain i p j → Covered w' base count plain i p j
Covered-kept b {i = i} {p} {j} s h e = record {
  source = e.source;
  below = e.below;
  near = ⊎_elim (λ q. inl q) (λ t. inr (subst T (sym (related-kept b i e.source h)) t)) e.near;
  leads = (list-kept b e.source s e.below refl refl p j).1 e.leads;
}

-- the first c configurations have been pruned: what is left of them is listed before `kept`; it was listed, and what was is led to still,
-- by the configuration itself or by one in its row
pub record Pruning (w₀ : List ℕ) (base acc count plain c : ℕ) (w : List ℕ) (kept : ℕ) : Type 0 where
  pub high : c ≤ count
  pub frame : KeptBut acc (acc + 256) (arcs_at base) (block_end base) w₀ w
  pub below : kept ≤ plain
  pub behind : c < count → kept ≤ start_at w₀ base c
  pub rest : (i : ℕ) → kept ≤ i → i < 2048 → field w (arcs_at base) i ≡ field w₀ (arcs_at base) i
  pub later : (i : ℕ) → c ≤ i → i < count → start_at w base i ≡ start_at w₀ base i
  pub starts : Starts w base c kept
  pub sound : (s l j : ℕ) → s < c → FromList w base c kept s l j → FromList w₀ base count plain s l j
  pub full : (s l j : ℕ) → s < c → l < 64 → FromList w₀ base count plain s l j → Covered w base c kept s l j

pub Pruning-start : (w : List ℕ) (base acc count plain : ℕ) → Pruning w base acc count plain 0 w 0
Pruning-start w base acc count plain = record {
  high = omega arith;
  frame = but_same acc (acc + 256) (arcs_at base) (block_end base) w;
  below = omega arith;
  behind = λ h. omega arith;
  rest = λ i h g. refl;
  later = λ i h g. refl;
  starts = record { few = omega arith; less = omega arith; zero = λ h. absurd (omega arith); each = λ c h. absurd (omega arith); rises = λ c h. absurd (omega arith) };
  sound = λ s l j h a. absurd (omega arith);
  full = λ s l j h g a. absurd (omega arith);
}

-- what only the sets of the letters have changed
module _ {w₀ w w' : List ℕ} {base acc count plain c kept : ℕ} (apart : acc + 256 ≤ base) (s : Starts w₀ base count plain) (k : Kept acc (acc + 256) w w') (v : Pruning w₀ base acc count plain c w kept) where
  same : SameBlock base w w'
  same = block-kept k (inl apart)

  pub Pruning-kept : Pruning w₀ base acc count plain c w' kept
  Pruning-kept = record {
    high = v.high;
    frame = but_then v.frame (but_low (omega arith) (omega arith) (omega arith) k);
    below = v.below;
    behind = v.behind;
    rest = λ i h g. arc-kept same i g ∙ v.rest i h g;
    later = λ i h g. start-kept same i (omega (arith, s.few)) ∙ v.later i h g;
    starts = starts-kept same v.starts;
    sound = λ i l j h a. v.sound i l j h ((list-kept same i v.starts h refl refl l j).0 a);
    full = λ i l j h g a. Covered-kept same v.starts (omega (arith, v.starts.few)) (v.full i l j h g a);
  }

-- the sets of a configuration before c that is in the row of c, from `from` to before `to`
pub ahead-covered : {w w' : List ℕ} {base acc c kept d from to : ℕ} (met : ℕ) → Room w base acc → Starts w base c kept → c < 256 → d < c → T (related w base c d) → from ≡ start_at w base d → to ≡ end_at w base c kept d
    → Kept acc (acc + 256) w w' → ((p j : ℕ) → p < 64 → T (in_set (set_of w' acc met p) j) ↔ (T (in_set (set_of w acc 0 p) j) ⊎ Among w base from to p j))
    → (p j : ℕ) → p < 64 → T (in_set (set_of w' acc met p) j) → Covered w' base c kept c p j
ahead-covered {w} {acc = acc} {d = d} met r s few h row ef et k f p j l t = ⊎_elim
    (λ t. absurd (subst T (none-met w acc p j) t))
    (λ a. Covered-kept (block-kept k r.apart) s few (record { source = d; below = h; near = inr row; leads = rw (← ef, ← et) a }))
    ((f p j l).0 t)

both_ways : {v w : List ℕ} {base from to p j : ℕ} → ((i : ℕ) → from ≤ i → i < to → field v (arcs_at base) i ≡ field w (arcs_at base) i) → SameRows base w v
    → Among v base from to p j ↔ Among w base from to p j
both_ways f rows = (λ a. among_same f rows a, λ a. among_same (λ i l h. sym (f i l h)) (λ t j l. sym (rows t j l)) a)

-- the starts from c on are as they were
module _ {w₀ w : List ℕ} {base acc count plain c kept at : ℕ} (h : c < count) (v : Pruning w₀ base acc count plain c w kept) where
  pub from-was : at ≡ start_at w base c → at ≡ start_at w₀ base c
  from-was e = e ∙ v.later c (omega arith) h

  pub to-was : at ≡ end_at w base count plain c → at ≡ end_at w₀ base count plain c
  unfolding end_at
  to-was e = e ∙ go (ltb (c + 1) count) refl
    where
      go : (b : Bool) → ltb (c + 1) count ≡ b → cond (ltb (c + 1) count) (start_at w base (c + 1)) plain ≡ cond (ltb (c + 1) count) (start_at w₀ base (c + 1)) plain
      go true e = ap (λ (x : ℕ). cond (ltb (c + 1) count) x plain) (v.later (c + 1) (omega arith) (ltb-true (c + 1) count e))
      go false e = rw e

-- a turn: the arcs of c are pruned, then its start is written
module _ {w₀ w w₁ w₂ : List ℕ} {base acc count plain c kept from to end : ℕ} (apart : acc + 256 ≤ base) (s : Starts w₀ base count plain) (h : c < count) (v : Pruning w₀ base acc count plain c w kept)
    (ef : from ≡ start_at w base c) (et : to ≡ end_at w base count plain c)
    (thin : KeptBut acc (acc + 256) (arcs_at base) (starts_at base) w w₁) (low : kept ≤ end) (top : end ≤ to)
    (rest : (i : ℕ) → (i < kept) ⊎ (end ≤ i) → field w₁ (arcs_at base) i ≡ field w (arcs_at base) i)
    (sound : (p j : ℕ) → Among w₁ base kept end p j → Among w base from to p j)
    (full : (p j : ℕ) → p < 64 → Among w base from to p j → Covered w base c kept c p j ⊎ Among w₁ base kept end p j)
    (pp : Kept (starts_at base + c / 4) (starts_at base + c / 4 + 1) w₁ w₂) (put : (i : ℕ) → field w₂ (starts_at base) i ≡ cond (eqb i c) kept (field w₁ (starts_at base) i)) where
  from₀ : from ≡ start_at w₀ base c
  from₀ = from-was h v ef

  to₀ : to ≡ end_at w₀ base count plain c
  to₀ = to-was h v et

  to-few : to ≤ plain
  to-few = omega (arith, to₀, end_below c s)

  kept-few : kept ≤ 2048
  kept-few = omega (arith, v.below, s.less)

  start-other : (i : ℕ) → ¬ (i ≡ c) → start_at w₂ base i ≡ start_at w base i
  unfolding start_at
  start-other i n = put i ∙ ap (λ (b : Bool). cond b kept (field w₁ (starts_at base) i)) (ne_eqb i c n) ∙ field-same w w₁ (starts_at base) i (thin.above (starts_at base + i / 4) (omega arith))

  start-here : start_at w₂ base c ≡ kept
  unfolding start_at
  start-here = put c ∙ ap (λ (b : Bool). cond b kept (field w₁ (starts_at base) c)) (eq-eqb c c refl)

  arcs-kept : (i : ℕ) → i < 2048 → field w₂ (arcs_at base) i ≡ field w₁ (arcs_at base) i
  arcs-kept i g = field-same w₁ w₂ (arcs_at base) i (pp.below (arcs_at base + i / 4) (omega arith))

  second : KeptBut acc (acc + 256) (arcs_at base) (block_end base) w₁ w₂
  second = but_high (omega arith) (omega arith) (omega (arith, s.few)) pp

  first : KeptBut acc (acc + 256) (arcs_at base) (block_end base) w w₁
  first = but_wider (omega arith) (omega arith) (omega arith) (omega arith) thin

  rows₂ : SameRows base w w₂
  rows₂ = rows-kept base acc (but_then first second) apart

  end_before : (i : ℕ) → i < c → end_at w₂ base (c + 1) end i ≡ end_at w base c kept i
  unfolding end_at
  end_before i g = rw (lt-ltb (i + 1) (c + 1) (omega arith)) (go (ℕ_discrete (i + 1) c))
    where
      go : Dec (i + 1 ≡ c) → start_at w₂ base (i + 1) ≡ cond (ltb (i + 1) c) (start_at w base (i + 1)) kept
      go (yes e) = rw (le-ltb (i + 1) c (omega arith)) (ap (start_at w₂ base) e ∙ start-here)
      go (no n) = rw (lt-ltb (i + 1) c (omega arith)) (start-other (i + 1) n)

  end-here : end_at w₂ base (c + 1) end c ≡ end
  unfolding end_at
  end-here = rw (le-ltb (c + 1) (c + 1) (omega arith))

  starts₂ : Starts w₂ base (c + 1) end
  starts₂ = record {
    few = omega (arith, s.few);
    less = omega (arith, to-few, s.less);
    zero = λ g. zero (ℕ_discrete 0 c);
    each = λ i g. each i g (ℕ_discrete i c);
    rises = λ i g. rises i g (ℕ_discrete i c);
  }
    where
      zero : Dec (0 ≡ c) → start_at w₂ base 0 ≡ 0
      zero (yes e) = let k : start_at w₀ base c ≡ 0 = rw (← e) (s.zero (omega arith)) in rw e (omega (arith, start-here, v.behind h, k))
      zero (no n) = start-other 0 n ∙ v.starts.zero (omega arith)

      each : (i : ℕ) → i < c + 1 → Dec (i ≡ c) → start_at w₂ base i ≤ end
      each i g (yes e) = rw e (omega (arith, start-here))
      each i g (no n) = omega (arith, start-other i n, v.starts.each i (omega arith))

      rises : (i : ℕ) → i < c + 1 → Dec (i ≡ c) → start_at w₂ base i ≤ end_at w₂ base (c + 1) end i
      rises i g (yes e) = rw e (omega (arith, start-here, end-here))
      rises i g (no n) = omega (arith, start-other i n, end_before i (omega arith), v.starts.rises i (omega arith))

  -- of the configurations before c nothing has changed, and their rows are as they were
  before : (i l j : ℕ) → i < c → FromList w₂ base (c + 1) end i l j ↔ FromList w base c kept i l j
  before i l j g =
      rw (start-other i (λ e. absurd (omega arith)), end_before i g)
      (both_ways (λ k a b. let q = end_below i v.starts in arcs-kept k (omega (arith, kept-few)) ∙ rest k (inl (omega arith))) rows₂)

  covered : (i l j : ℕ) → i < 256 → Covered w base c kept i l j → Covered w₂ base (c + 1) end i l j
  covered i l j g e = let b = e.below in record {
    source = e.source;
    below = omega arith;
    near = ⊎_elim (λ q. inl q) (λ t. inr (subst T (sym (rows₂ i e.source g)) t)) e.near;
    leads = (before e.source l j e.below).1 e.leads;
  }

  -- the listed arcs of c
  here : (l j : ℕ) → Among w₂ base kept end l j ↔ Among w₁ base kept end l j
  here l j = both_ways (λ k a b. arcs-kept k (omega (arith, to-few, s.less))) (rows-kept base acc second apart)

  there : (l j : ℕ) → Among w base from to l j ↔ Among w₀ base from to l j
  there l j = both_ways (λ k a b. v.rest k (omega (arith, from₀, v.behind h)) (omega (arith, to-few, s.less))) (rows-kept base acc v.frame apart)

  sound₂ : (i l j : ℕ) → i < c + 1 → Dec (i ≡ c) → FromList w₂ base (c + 1) end i l j → FromList w₀ base count plain i l j
  sound₂ i l j g (yes e) = rw (e, start-here, end-here, ← from₀, ← to₀) (λ a. (there l j).0 (sound l j ((here l j).0 a)))
  sound₂ i l j g (no n) = λ a. v.sound i l j (omega arith) ((before i l j (omega arith)).0 a)

  full₂ : (i l j : ℕ) → i < c + 1 → l < 64 → Dec (i ≡ c) → FromList w₀ base count plain i l j → Covered w₂ base (c + 1) end i l j
  full₂ i l j g m (yes e) = rw (e, ← from₀, ← to₀) (λ a. ⊎_elim
      (λ b. covered c l j (omega (arith, s.few)) b)
      (λ b. record { source = c; below = omega arith; near = inl refl; leads = rw (start-here, end-here) ((here l j).1 b) })
      (full l j m ((there l j).1 a)))
  full₂ i l j g m (no n) = λ a. covered i l j (omega (arith, s.few)) (v.full i l j (omega arith) m a)

  next : c + 1 < count → end ≤ start_at w₀ base (c + 1)
  unfolding end_at
  next g = let q : end_at w₀ base count plain c ≡ start_at w₀ base (c + 1) = rw (lt-ltb (c + 1) count g) in omega (arith, to₀)

  pub Pruning-more : Pruning w₀ base acc count plain (c + 1) w₂ end
  Pruning-more = record {
    high = omega arith;
    frame = but_then v.frame (but_then first second);
    below = omega (arith, to-few);
    behind = next;
    rest = λ i g k. arcs-kept i k ∙ rest i (inr g) ∙ v.rest i (omega arith) k;
    later = λ i g k. start-other i (λ e. absurd (omega arith)) ∙ v.later i (omega arith) k;
    starts = starts₂;
    sound = λ i l j g. sound₂ i l j g (ℕ_discrete i c);
    full = λ i l j g m. full₂ i l j g m (ℕ_discrete i c);
  }

-- THE LAW. What is left tells the plain arcs still.
module _ {w₀ w : List ℕ} {block : Block} {acc c kept : ℕ} (apart : acc + 256 ≤ block.base) (s : BySource w₀ block) (h : block.count ≤ c)
    (v : Pruning w₀ block.base acc block.count block.plain c w kept) where
  abbrev pruned : Block
  pruned = record { base = block.base; count = block.count; plain = kept }

  all : c ≡ block.count
  all = omega (arith, v.high)

  pub pruned-tells : (letters : ℕ) (arcs : List PlainArc) → letters ≤ 64 → Tells letters arcs w₀ block → Tells letters arcs w pruned
  pruned-tells letters arcs few t = record {
    some = t.some;
    few = t.few;
    within = t.within;
    rows = λ i j g. rw (rows i j g) (t.rows i j g);
    listed = λ _. rw (← all) v.starts;
    held = λ _. record {
      within = t.within;
      sound = λ i l j g m a. held.sound i l j g m (rw all at (v.sound i l j (omega (arith, all))) a);
      full = λ i l j g m r.
          let q = held.full i l j g m r in
          let d = run-below block.count arcs t.within g q.1 in
          let u : Covered w block.base block.count kept q.0 l j = rw all at (v.full q.0 l j (omega (arith, all, d)) (omega arith) q.2) in
          (u.source, joined q.1 (⊎_elim (λ e. rw e stay) (λ e. (t.rows q.0 u.source d).0 (subst T (rows q.0 u.source d) e)) u.near), u.leads);
    };
  }
    where
      held : Held block.count letters arcs (FromList w₀ block.base block.count block.plain)
      held = t.held s.less

      rows : (i j : ℕ) → i < block.count → related w block.base i j ≡ related w₀ block.base i j
      rows i j g = rows-kept block.base acc v.frame apart i j (omega (arith, s.few))
