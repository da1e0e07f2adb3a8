-- Retold: a block whose listed arcs got the new numbers of their letters tells the plain arcs with the new letters.
use mathlib.Core.Path.{◌∙◌, ◌≡◌, ap, refl, subst, sym}
use mathlib.Core.Bool.{Bool, cond, false, true}
use mathlib.Core.List.Memᴰ
use mathlib.Core.List.{List, Memᴰ, [], ◌∷◌, map}
use mathlib.Core.Option
use mathlib.Core.Option.{Option, some-injective, none, some}
use Prim.Native.Nat.{◌+◌, ◌/◌, ◌<◌, ◌≤◌, ℕ}
use native.Mathlib.Omega.{arith}
use borrow.Author.Tests.{ltb-true}
use lib.Dec.{ltb}
use lib.ListN.{length}
use Rattle.automata.specs.Automaton.{Run, silent, stay}
use Rattle.automata.specs.Live.{Moves, PlainArc}
use Rattle.automata.proofs.Laws.{none-some, run-below}
use Rattle.relettering.specs.Relettering.{letter_by}
use Rattle.relettering.proofs.Laws.{number-beyond, relettered_plain}
use Rattle.word_layout.specs.Layout.{arcs_at, starts_at}
use Rattle.word_layout.specs.declared.Block.{Block}
use Rattle.word_fields.specs.Fields.{field}
use Rattle.word_fields.proofs.Laws.{field-same, kept_same}
use Rattle.word_rows.specs.Rows.{related}
use Rattle.word_rows.proofs.Laws.{row_below}
use Rattle.table_sets.specs.Stepping.{BySource, FromList, Held, Tells, end_at, plain_letter_at, start_at, target_at}
use Rattle.table_sets.proofs.Laws.{end_below}
use Rattle.table_relettering.specs.Relisting.{Relisted}

-- ---- plain arcs with the new numbers of their letters
module _ (new : List ℕ) (arcs : List PlainArc) where
  abbrev arcs' : List PlainArc
  arcs' = map (relettered_plain new) arcs

  move-to : {i j : ℕ} {α : Option ℕ} → Moves arcs i α j → Moves arcs' i (Option.map (letter_by new) α) j
  move-to m = Memᴰ.map (relettered_plain new) m

  record Came (i : ℕ) (β : Option ℕ) (j : ℕ) : Type 0 where
    letter : Option ℕ
    move : Moves arcs i letter j
    is : Option.map (letter_by new) letter ≡ β

  move-from : {i j : ℕ} {β : Option ℕ} → Moves arcs' i β j → Came i β j
  move-from m =
      let p = Memᴰ.of_map (relettered_plain new) arcs m in
      record {
        letter = p.0.letter;
        move = Memᴰ.cast (λ k. record { source = (ap (λ (a : PlainArc). a.source) (sym p.2)) k; letter = p.0.letter; target = (ap (λ (a : PlainArc). a.target) (sym p.2)) k }) p.1;
        is = ap (λ (a : PlainArc). a.letter) p.2;
      }

  quiet : {i j : ℕ} (α : Option ℕ) → Moves arcs i α j → Option.map (letter_by new) α ≡ none → Moves arcs i none j
  quiet none m e = m
  quiet (some l) m e = none-some e refl

  lettered : {i j b : ℕ} (α : Option ℕ) → Moves arcs i α j → Option.map (letter_by new) α ≡ some b → (l : ℕ) × Moves arcs i (some l) j × (letter_by new l ≡ b)
  lettered none m e = none-some refl e
  lettered {b = b} (some l) m e = (l, m, some-injective (letter_by new l) b e)

  run-to : {i j : ℕ} → Run (Moves arcs) i [] j → Run (Moves arcs') i [] j
  run-to stay = stay
  run-to (silent m r) = silent (move-to m) (run-to r)

  run-from : {i j : ℕ} → Run (Moves arcs') i [] j → Run (Moves arcs) i [] j
  run-from stay = stay
  run-from (silent m r) = let c = move-from m in silent (quiet c.letter c.move c.is) (run-from r)

  target_below : {n : ℕ} → ((a : PlainArc) → Memᴰ a arcs → a.target < n) → (a : PlainArc) → Memᴰ a arcs' → a.target < n
  target_below within a m = let p = Memᴰ.of_map (relettered_plain new) arcs m in rw (← ap (λ (a : PlainArc). a.target) p.2) (within p.0 p.1)

-- ---- the block
-- by no new numbers it is as it was
pub Relisted-none : (new w : List ℕ) (block : Block) → length new ≤ 0 → Relisted new w w block
Relisted-none (x ∷ new) w block h = absurd (omega arith)
Relisted-none [] w block h = record { kept = kept_same (arcs_at block.base) (starts_at block.base) w; arcs = λ k h. omega arith }

module _ {new w w' : List ℕ} {block : Block} (r : Relisted new w w' block) where
  abbrev base : ℕ
  base = block.base

  rows_same : (i j : ℕ) → i < 256 → related w' base i j ≡ related w base i j
  unfolding related
  rows_same i j h = rw (row_below base i r.kept (omega arith))

  start-same : (i : ℕ) → i < 256 → start_at w' base i ≡ start_at w base i
  unfolding start_at
  start-same i h = field-same w w' (starts_at base) i (r.kept.above (starts_at base + i / 4) (omega arith))

  end_same : (i : ℕ) → block.count ≤ 256 → end_at w' base block.count block.plain i ≡ end_at w base block.count block.plain i
  unfolding end_at
  end_same i h = go (ltb (i + 1) block.count) refl
    where
      go : (t : Bool) → ltb (i + 1) block.count ≡ t → cond t (start_at w' base (i + 1)) block.plain ≡ cond t (start_at w base (i + 1)) block.plain
      go true e = start-same (i + 1) (omega (arith, ltb-true (i + 1) block.count e))
      go false e = refl

  pub Relisted-listed : BySource w block → BySource w' block
  Relisted-listed s = record {
    few = s.few;
    less = s.less;
    zero = λ h. start-same 0 (omega arith) ∙ s.zero h;
    each = λ c h. omega (arith, start-same c (omega (arith, s.few)), s.each c h);
    rises = λ c h. omega (arith, start-same c (omega (arith, s.few)), end_same c s.few, s.rises c h);
  }

  field-small : (k : ℕ) → field w (arcs_at base) k < 65536
  unfolding field
  field-small k = omega arith

  -- what the list leads to by a letter, it leads to by the letter's new number, and by no other
  module _ (few : length new ≤ 64) (s : BySource w block) (c j : ℕ) (h : c < block.count) where
    abbrev From : ℕ → Type 0
    From l = FromList w base block.count block.plain c l j

    abbrev From' : ℕ → Type 0
    From' l = FromList w' base block.count block.plain c l j

    list-to : (l : ℕ) → l < 255 → From l → From' (letter_by new l)
    list-to l g a =
        let e = r.arcs a.at (omega (arith, a.high, end_below c s)) in
        let t : target_at w' base a.at ≡ target_at w base a.at = omega arith in
        record {
          at = a.at;
          low = rw (start-same c (omega (arith, s.few))) a.low;
          high = rw (end_same c s.few) a.high;
          letter = omega (arith, rw a.letter at e);
          leads = rw (t, rows_same (target_at w base a.at) j (omega arith)) a.leads;
        }

    list-from : (b : ℕ) → b < 255 → From' b → (l : ℕ) × (l < 255) × (letter_by new l ≡ b) × From l
    list-from b g a =
        let high : a.at < end_at w base block.count block.plain c = rw (← end_same c s.few) a.high in
        let e = r.arcs a.at (omega (arith, high, end_below c s)) in
        let l = plain_letter_at w base a.at in
        let t : target_at w' base a.at ≡ target_at w base a.at = omega arith in
        let q : letter_by new l ≡ b = omega (arith, a.letter) in
        let n : ¬ (l ≡ 255) = λ f. omega (arith, number-beyond new l (omega (arith, few))) in (
          l,
          omega (arith, n, field-small a.at),
          q,
          record { at = a.at; low = rw (← start-same c (omega (arith, s.few))) a.low; high = high; letter = refl; leads = rw (← rows_same (target_at w base a.at) j (omega arith), ← t) a.leads },
        )

  -- THE LAW of relettering a block: it tells the plain arcs with the new numbers of their letters
  module _ {letters : ℕ} {arcs : List PlainArc} (new-few : length new ≤ 64) (short : letters ≤ 255) (own : (a : PlainArc) → Memᴰ a arcs → (l : ℕ) → a.letter ≡ some l → l < 255) (t : Tells 255 arcs w block) where
    held : block.plain ≤ 2048 → Held block.count letters (map (relettered_plain new) arcs) (FromList w' base block.count block.plain)
    held few = let h = t.held few in let s = t.listed few in record {
      within = target_below new arcs t.within;
      sound = λ c b j hs hb f.
          let p = list-from new-few s c j hs b (omega arith) f in
          let q = h.sound c p.0 j hs p.1 p.3 in
          (q.0, subst (λ (b : ℕ). Moves (map (relettered_plain new) arcs) c (some b) q.0) p.2 (move-to new arcs q.1), run-to new arcs q.2);
      full = λ c b j hs hb m.
          let k = move-from new arcs m.1 in
          let q = lettered new arcs k.letter k.move k.is in
          let less = own _ q.1 q.0 refl in
          let f = h.full c q.0 j hs less (m.0, q.1, run-from new arcs m.2) in
          (f.0, run-to new arcs f.1, subst (λ (b : ℕ). FromList w' base block.count block.plain f.0 b j) q.2 (list-to new-few s f.0 j (run-below block.count arcs t.within hs f.1) q.0 less f.2));
    }

    pub Relisted-tells : Tells letters (map (relettered_plain new) arcs) w' block
    Relisted-tells = record {
      some = t.some;
      few = t.few;
      within = target_below new arcs t.within;
      rows = λ i j h. rw (rows_same i j (omega (arith, t.few))) (λ p. run-to new arcs ((t.rows i j h).0 p), λ m. (t.rows i j h).1 (run-from new arcs m));
      listed = λ few. Relisted-listed (t.listed few);
      held = held;
    }
