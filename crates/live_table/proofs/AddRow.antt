-- AddRow: a row that is put into the table stands there, and what was there before stands still.
use mathlib.Core.Path.{◌≡◌, refl, sym, ap, ap₂, ◌∙◌}
use mathlib.Core.Logic.{⊎_elim}
use mathlib.Core.Bool.{cond}
use mathlib.Core.List.{List, []}
use Prim.Native.Nat.{ℕ, ◌+◌, ◌-◌, ◌*◌, ◌/◌, ◌^◌, ◌≤◌, ◌<◌}
use native.Mathlib.Omega.{arith}
use borrow.Author.Tests.{eq-eqb, ne_eqb}
use lib.Dec.{eqb}
use mir.Syntax.{w64}
use mir.Val.{Val}
use denote.Plain.{UInt}
use denote.Array.{Array, each}
use denote.Shadow.{shadow}
use Rattle.live_table.proofs.Lines.{lines-four}
use lib.ListN.{get_or, length}
use Rattle.word_fields.specs.Frame.{Kept, Beside}
use Rattle.word_fields.specs.Fields.{field, Apart}
use Rattle.word_fields.specs.Chains.{Chain, Found}
use Rattle.std.proofs.Common.{Option, Some, None, is_some, unwrap_or, true, false}
use Rattle.word_fields.proofs.Laws.{Beside-kept, chain-kept, field-same, found-hit, kept_then, kept-wider}
use Rattle.word_rows.specs.Rows.{row}
use Rattle.word_sets.proofs.Laws.{Four, set-ext}
use Rattle.word_rows.proofs.Laws.{row_below, row-four, row_other}
use Rattle.word_layout.specs.Layout.{Tabled, heads_at, nexts_at, parents_at, table_end}
use Rattle.word_layout.specs.declared.SetTable.{SetTable}
use Rattle.live_table.specs.SetRows.{Added, FoundRow, Lacking, Old, LineAt, RowAt, RowChain, first_set, last_set, key_of, left_row, right_row}
use Rattle.live_table.proofs.RowNumbers.{left-ends, numbered, right-ends}

-- a row has the key of its sets
pub same_key_lem : (t : SetTable) (w u v : List ℕ) (i : ℕ) → RowAt t w u v i → key_of (left_row t w i) (right_row t w i) ≡ key_of u v
same_key_lem t w u v i a = ap₂ key_of a.0 a.1

-- what is found, as a number, n where no row is
pub found-row : (t : SetTable) (w u v : List ℕ) (n : ℕ) (o : Option ℕ) → FoundRow t w u v n o → Found (RowAt t w u v) n (unwrap_or o n)
found-row t w u v n None h = record { few = omega arith; hit = λ l. absurd (omega arith); miss = λ p. h }
found-row t w u v n (Some i) h = found-hit h.0 h.1

-- where none is found, the number is n
pub found-none : (n : ℕ) (o : Option ℕ) → is_some o ≡ false → n ≤ unwrap_or o n
found-none n None e = omega arith
found-none n (Some i) e = absurd (cc)

-- where none is found, no row has the members of both sets
pub lacking : {t : SetTable} (w u v : List ℕ) {n r : ℕ} → n ≤ 512 → Tabled w t → ((j : ℕ) → get_or w j 0 < 2 ^ 64) → Four u → Four v → Found (RowAt t w u v) n r → n ≤ r → Lacking t w n u v
lacking {t} w u v {n} few d words fu fv f h p l x y =
    let low : p < 512 = omega arith in
    f.miss (omega (arith, f.few)) p l (
      set-ext (row-four w t.rows (t.sets * p) (omega (arith, left-ends d low, d.long)) words) fu x,
      set-ext (row-four w t.rows (t.sets * p + (t.sets - 1)) (omega (arith, right-ends d low, d.long)) words) fv y,
    )

-- and so of the sets of a row, as many as the table's rows have
pub lines-lacking : {t : SetTable} (w : List ℕ) (sets : List (List ℕ)) (us : List Val) {n many : ℕ} → length sets ≡ many → shadow (each (List ℕ) (Array (UInt w64) 4).own_val sets us) → n ≤ 512 → Tabled w t → t.sets ≡ many
    → ((j : ℕ) → get_or w j 0 < 2 ^ 64) → (o : Option ℕ) → is_some o ≡ false → FoundRow t w (first_set sets) (last_set sets) n o → Lacking t w n (first_set sets) (last_set sets)
lines-lacking {t} w sets us {n} long q few d one words o none f =
    let some : 0 < length sets = ⊎_elim (λ (e : t.sets ≡ 1). omega arith) (λ (e : t.sets ≡ 2). omega arith) d.one_or_two in
    lacking w (first_set sets) (last_set sets) few d words (lines-four sets us q 0 some) (lines-four sets us q (length sets - 1) (omega arith))
    (found-row t w (first_set sets) (last_set sets) n o f) (found-none n o none)

-- the sets are stored; then the parent; then n joins the chain of the key
module _ {t : SetTable} {w w2 w3 w4 : List ℕ} (sets : List (List ℕ)) {s : ℕ} (n from : ℕ) (h : n < 512) (d : Tabled w t) (many : length sets ≡ t.sets)
    (k2 : Kept (t.rows + 4 * (t.sets * n)) (t.rows + 4 * (t.sets * n + t.sets)) w w2) (e2 : (j : ℕ) → j < t.sets → row w2 t.rows (t.sets * n + j) ≡ get_or sets j [])
    (k3 : Kept (parents_at t + n / 4) (parents_at t + n / 4 + 1) w2 w3) (e3 : (j : ℕ) → field w3 (parents_at t) j ≡ cond (eqb j n) from (field w2 (parents_at t) j))
    (es : s ≡ key_of (first_set sets) (last_set sets)) (ls : s < 509) (b : Beside (heads_at t + s / 4) (nexts_at t + n / 4) w3 w4)
    (f : (key : ℕ → ℕ) (slots : ℕ) → Chain key w3 (heads_at t) (nexts_at t) slots n → Apart (heads_at t) slots (nexts_at t) (n + 1) → s < slots → key n ≡ s
    → Chain key w4 (heads_at t) (nexts_at t) slots (n + 1)) where
  k4 : Kept (heads_at t) (table_end t) w3 w4
  k4 = Beside-kept (omega arith) (omega arith) (omega arith) (omega arith) b

  k12 : Kept t.rows (parents_at t) w w2
  k12 = let o = numbered d h in kept-wider (omega arith) (omega (arith, right-ends d h, o.some_set)) k2

  k13 : Kept t.rows (heads_at t) w w3
  k13 = kept_then (kept-wider (omega arith) (omega arith) k12) (kept-wider (omega (arith, right-ends d h)) (omega arith) k3)

  -- the sets of the table, once they are stored
  stored : (q : ℕ) → t.rows + 4 * q + 4 ≤ t.index → row w3 t.rows q ≡ row w2 t.rows q
  stored q l = row_below t.rows q k3 (omega arith)

  joined : (q : ℕ) → t.rows + 4 * q + 4 ≤ t.index → row w4 t.rows q ≡ row w3 t.rows q
  joined q l = row_below t.rows q k4 (omega arith)

  there : LineAt t w3 sets n
  there =
      let o = numbered d h in
      let z : t.sets * n + 0 ≡ t.sets * n = omega arith in (
        stored (t.sets * n) (left-ends d h) ∙ ap (row w2 t.rows) (sym z) ∙ e2 0 (omega (arith, o.some_set)),
        stored (t.sets * n + (t.sets - 1)) (right-ends d h) ∙ e2 (t.sets - 1) (omega (arith, o.some_set)) ∙ ap (λ (k : ℕ). get_or sets (k - 1) []) (sym many),
      )

  before : (q : ℕ) → q < t.sets * n → row w3 t.rows q ≡ row w t.rows q
  before q l = stored q (omega (arith, left-ends d h)) ∙ row_below t.rows q k2 (omega arith)

  earlier : (p : ℕ) → p < n → RowAt t w3 (left_row t w p) (right_row t w p) p
  earlier p l =
      let o = numbered d l in
      (before (t.sets * p) (omega (arith, o.some_set, o.later)), before (t.sets * p + (t.sets - 1)) (omega (arith, o.some_set, o.later)))

  -- n joins the chain: the sets stay
  left-stays : (p : ℕ) → p < 512 → left_row t w4 p ≡ left_row t w3 p
  left-stays p l = joined (t.sets * p) (left-ends d l)

  right-stays : (p : ℕ) → p < 512 → right_row t w4 p ≡ right_row t w3 p
  right-stays p l = joined (t.sets * p + (t.sets - 1)) (right-ends d l)

  -- the parents, once n has joined the chain
  parent : (p : ℕ) → p < 512 → field w4 (parents_at t) p ≡ cond (eqb p n) from (field w2 (parents_at t) p)
  parent p l = field-same w3 w4 (parents_at t) p (k4.below (parents_at t + p / 4) (omega arith)) ∙ e3 p

  chained : RowChain t w n → RowChain t w3 n
  chained c =
      chain-kept (λ j l. let o = earlier j l in ap₂ key_of (sym o.0) (sym o.1))
      (λ i l. k13.above (heads_at t + i / 4) (omega arith)) (λ j l. k13.above (nexts_at t + j / 4) (omega arith)) c

  pub added : RowChain t w n → Added t w w4 n (first_set sets) (last_set sets) from
  added c = record {
    kept = kept_then (kept-wider (omega arith) (omega arith) k13) (kept-wider (omega (arith, right-ends d h)) (omega arith) k4);
    new = (left-stays n h ∙ there.0, right-stays n h ∙ there.1);
    old = λ p l. let o = earlier p l in (left-stays p (omega arith) ∙ o.0, right-stays p (omega arith) ∙ o.1);
    own = parent n h ∙ rw (eq-eqb n n refl);
    others = λ p l. parent p (omega arith) ∙ rw (ne_eqb p n (λ e. omega arith)) (field-same w w2 (parents_at t) p (k12.above (parents_at t + p / 4) (omega arith)));
    chain = chain-kept (λ j l. ap₂ key_of (sym (left-stays j (omega arith))) (sym (right-stays j (omega arith)))) (λ i l. refl) (λ j l. refl)
        (f (λ i. key_of (left_row t w3 i) (right_row t w3 i)) 509 (chained c) (λ i j l g e. omega arith) ls (same_key_lem t w3 (first_set sets) (last_set sets) n there ∙ sym es));
  }
