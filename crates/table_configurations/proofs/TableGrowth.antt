-- TableGrowth: the tables once a configuration more has its number, once an arc more is noted, and when other words change.
use mathlib.Core.Path.{◌∙◌, ◌≡◌, ap, ap₂, refl, sym}
use mathlib.Core.Logic.{◌↔◌, ◌⊎◌, inl, inr, ⊎_elim}
use Prim.Native.Nat.{◌*◌, ◌+◌, ◌/◌, ◌<◌, ◌^◌, ◌≤◌, ℕ}
use borrow.Author.Tests.{eq-eqb, eqb-true, lt-ltb, ne_eqb}
use lib.Dec.{T, eqb, eqb→eq, ltb}
use lib.ListN.{drop, get_or, length, length-append, length-drop, length-take}
use lib.Seq.{get_or-drop, take-suc}
use mathlib.Core.Bool.{Bool, ◌&&◌, ◌||◌, cond, false, true}
use mathlib.Core.List.Memᴰ
use mathlib.Core.List.{List, [], ◌++◌, ◌∷◌}
use mathlib.Core.Option.{Option, none}
use native.Mathlib.Decide.{dec_lt, ℕ_discrete}
use native.Mathlib.Numerals.{add-one}
use native.Mathlib.Omega.{arith}
use Rattle.automata.specs.Exploration.{add, number}
use Rattle.automata.specs.Lists.{count_from}
use Rattle.automata.specs.Live.{Moves, PlainArc}
use Rattle.word_layout.specs.Layout.{Placed, arcs_at, config_heads, config_nexts, configs, map_end, starts_at}
use Rattle.table_configurations.specs.Known.{plain_arc}
use Rattle.table_configurations.specs.Tables.{Configured, Tabled, fields_of, listed}
use Rattle.format.specs.Decoding.{letter_of}
use Rattle.format.specs.Encoding.{letter_byte}
use Rattle.word_fields.specs.Chains.{WordChain, no_entry, slot}
use Rattle.word_fields.specs.Fields.{field}
use Rattle.word_fields.specs.Frame.{Kept, KeptBut}
use Rattle.word_rows.specs.Rows.{related}
use Rattle.automata.proofs.Laws.{add-new, and-iff, map-append, none-some, or_iff}
use Rattle.table_configurations.proofs.FieldLists.{fields-ext, fields-kept, fields_snoc, related-kept}
use Rattle.table_configurations.proofs.NumberedArcs.{add-distinct}
use Rattle.word_fields.proofs.Laws.{but_high, but_low, but_then, chain-kept, chain-start, field-same, kept_then, kept-wider, part_same}

-- ---- other words change
pub configured-kept : {w w'' : List ℕ} {count : ℕ} → ((j : ℕ) → configs ≤ j → j < map_end → get_or w'' j 0 ≡ get_or w j 0) → Configured w count → Configured w'' count
configured-kept {w} {w''} {count} h c = record {
  few = c.few;
  small = λ i l. rw (h (configs + i) (omega arith) (omega (arith, c.few))) (c.small i l);
  chain = chain-kept (λ j l. ap slot (sym (h (configs + j) (omega arith) (omega (arith, c.few)))))
      (λ s l. h (config_heads + s / 4) (omega arith) (omega arith)) (λ j l. h (config_nexts + j / 4) (omega arith) (omega (arith, c.few))) c.chain;
}

pub tabled-kept : {w w'' : List ℕ} {base count plain : ℕ} {all : List ℕ} {plains : List PlainArc} → count ≤ 256 → length w'' ≡ length w
    → ((j : ℕ) → configs ≤ j → j < map_end → get_or w'' j 0 ≡ get_or w j 0) → ((j : ℕ) → base ≤ j → j < starts_at base → get_or w'' j 0 ≡ get_or w j 0)
    → Tabled w base count plain all plains → Tabled w'' base count plain all plains
tabled-kept {w} {w''} {base} {count} {plain} {all} {plains} few e h g t = record {
  table = part_same w w'' configs count e (λ j l. h (configs + j) (omega arith) (omega arith)) ∙ t.table;
  distinct = t.distinct;
  counted = t.counted;
  sources = t.sources;
  list = λ l. fields-kept w w'' (arcs_at base) plain (λ j x y. g j (omega arith) (omega arith)) ∙ t.list l;
  rows = λ i j l. rw (related-kept w w'' base i e (λ k x y. g k (omega arith) (omega arith)) j) (t.rows i j l);
}

-- ---- no configuration yet
pub configured-none : {w : List ℕ} → ((s : ℕ) → s < 512 → field w config_heads s ≡ no_entry) → Configured w 0
configured-none {w} h = record {
  few = omega arith;
  small = λ i l. absurd (omega arith);
  chain = chain-start (λ i. slot (get_or w (configs + i) 0)) w config_heads config_nexts 509 (λ s l. h s (omega arith));
}

pub tabled-none : (w : List ℕ) (base : ℕ) → Tabled w base 0 0 [] []
unfolding fields_of count_from
tabled-none w base = record {
  table = refl;
  distinct = tt;
  counted = refl;
  sources = λ q m. absurd (Memᴰ.not-nil m);
  list = λ l. refl;
  rows = λ i j l. absurd (omega arith);
}

-- ---- a configuration more
-- it is written as word `count`, and its row holds it alone
module _ {w w₁ w₂ : List ℕ} {base count key : ℕ} (p : Placed w base) (less : count < 256)
    (k₁ : Kept (configs + count) (config_nexts + count / 4 + 1) w w₁) (word : get_or w₁ (configs + count) 0 ≡ key)
    (k₂ : Kept (base + 4 * count) (base + 4 * count + 4) w₁ w₂) (row : (j : ℕ) → related w₂ base count j ≡ eqb j count) where
  pub new-kept : KeptBut configs map_end base (arcs_at base) w w₂
  new-kept = but_then (but_low (omega arith) (omega arith) (omega arith) k₁) (but_high (omega arith) (omega arith) (omega arith) k₂)

  pub configured-new : key < 2 ^ 40 → Configured w count → WordChain w₁ configs config_heads config_nexts (count + 1) → Configured w₂ (count + 1)
  configured-new h c ch = configured-kept (λ j x y. k₂.below j (omega arith)) (record {
    few = omega arith;
    small = λ i l. small i (ℕ_discrete i count) l;
    chain = ch;
  })
    where
      small : (i : ℕ) → Dec (i ≡ count) → i < count + 1 → get_or w₁ (configs + i) 0 < 2 ^ 40
      small i (yes e) l = rw (e, word) h
      small i (no n) l = rw (k₁.below (configs + i) (omega arith)) (c.small i (omega arith))

  pub tabled-new : (plain : ℕ) (all : List ℕ) (plains : List PlainArc) → Tabled w base count plain all plains → number eqb key all ≡ count
      → Tabled w₂ base (count + 1) plain (add eqb all key) plains
  tabled-new plain all plains t n = record {
    table = rw add-one (take-suc (drop configs w₂) count 0 (simp length-drop (omega (arith, k₂.long, k₁.long)))
        ∙ ap₂ (λ (l : List ℕ) (x : ℕ). l ++ x ∷ []) (part_same w w₂ configs count (k₂.long ∙ k₁.long) (λ j l. old j l) ∙ t.table)
        (get_or-drop configs w₂ count 0 ∙ k₂.below (configs + count) (omega arith) ∙ word)
        ∙ sym (add-new eqb key all (omega (arith, n, long))));
    distinct = add-distinct all key t.distinct;
    counted = t.counted;
    sources = λ q m. omega (arith, t.sources q m);
    list = λ l. fields-kept w w₂ (arcs_at base) plain (λ j x y. k₂.above j (omega arith) ∙ k₁.above j (omega arith)) ∙ t.list l;
    rows = λ i j l. rows i j l (ℕ_discrete i count);
  }
    where
      old : (j : ℕ) → j < count → get_or w₂ (configs + j) 0 ≡ get_or w (configs + j) 0
      old j l = k₂.below (configs + j) (omega arith) ∙ k₁.below (configs + j) (omega arith)

      long : length all ≡ count
      long = rw (← t.table) (simp (length-take, length-drop) (omega arith))

      rows : (i j : ℕ) → i < count + 1 → Dec (i ≡ count) → T (related w₂ base i j) ↔ ((j ≡ i) ⊎ Moves plains i none j)
      rows i j l (yes e) = rw (e, row j) (
        λ x. inl (eqb→eq j count x),
        λ s. ⊎_elim (λ x. rw (eq-eqb j count x) tt) (λ m. absurd (omega (arith, t.sources (plain_arc count none j) m))) s,
      )
      rows i j l (no e) =
          rw (related-kept w w₂ base i (k₂.long ∙ k₁.long) (λ k x y. other k x y (dec_lt i count)) j) (t.rows i j (omega arith))
        where
          other : (k : ℕ) → base + 4 * i ≤ k → k < base + 4 * i + 4 → Dec (i < count) → get_or w₂ k 0 ≡ get_or w k 0
          other k x y (yes h) = k₂.below k (omega arith) ∙ k₁.above k (omega arith)
          other k x y (no h) = k₂.above k (omega arith) ∙ k₁.above k (omega arith)

-- ---- an arc more
letter-back : (x : ℕ) → letter_byte (letter_of x) ≡ x
unfolding letter_of
letter-back x = cases (eqb x 255) refl
  where
    cases : (t : Bool) → eqb x 255 ≡ t → letter_byte (letter_of x) ≡ x
    cases true e = rw e (sym (eqb-true x 255 e))
    cases false e = rw e

-- it is an empty move from i to j
empty-move : (x c t i j : ℕ) → (plain_arc i none j ≡ plain_arc c (letter_of x) t) ↔ T (eqb x 255 && eqb i c && eqb j t)
unfolding letter_of
empty-move x c t i j = cases (eqb x 255) refl
  where
    cases : (b : Bool) → eqb x 255 ≡ b → (plain_arc i none j ≡ plain_arc c (letter_of x) t) ↔ T (eqb x 255 && eqb i c && eqb j t)
    cases true e = rw e (
      λ q. rw (eq-eqb i c (ap (λ (a : PlainArc). a.source) q), eq-eqb j t (ap (λ (a : PlainArc). a.target) q)) tt,
      λ q. let b = (and-iff (eqb i c) (eqb j t)).0 q in ap₂ (λ (y z : ℕ). plain_arc y none z) (eqb→eq i c b.0) (eqb→eq j t b.1),
    )
    cases false e = rw e (λ q. none-some refl (sym (ap (λ (a : PlainArc). a.letter) (sym q))), λ q. absurd q)

moves-snoc : (plains : List PlainArc) (q : PlainArc) (i : ℕ) (α : Option ℕ) (j : ℕ) → Moves (plains ++ q ∷ []) i α j ↔ (Moves plains i α j ⊎ (plain_arc i α j ≡ q))
moves-snoc plains q i α j = (
  λ m. ⊎_elim (λ k. inl k) (λ k. inr (Memᴰ.eq_of_singleton k)) (Memᴰ.append_cases plains m),
  λ s. ⊎_elim (λ k. Memᴰ.append_left (q ∷ []) k) (λ e. Memᴰ.append_right plains (Memᴰ.head e)) s,
)

-- the rows, then the list
pub arc-kept : {base : ℕ} {w w₁ w₂ : List ℕ} → Kept base (arcs_at base) w w₁ → Kept (arcs_at base) (starts_at base) w₁ w₂ → Kept base (starts_at base) w w₂
arc-kept k₁ k₂ = kept_then (kept-wider (omega arith) (omega arith) k₁) (kept-wider (omega arith) (omega arith) k₂)

-- its target joins row c if it is an empty move, and it is listed if there is room
module _ {w w₁ w₂ : List ℕ} {base : ℕ} (c plain letter target : ℕ) (p : Placed w base)
    (k₁ : Kept base (arcs_at base) w w₁) (noted : (i j : ℕ) → related w₁ base i j ≡ ((eqb letter 255 && eqb i c && eqb j target) || related w base i j))
    (k₂ : Kept (arcs_at base) (starts_at base) w₁ w₂)
    (put : (k : ℕ) → field w₂ (arcs_at base) k ≡ cond (ltb plain 2048 && eqb k plain) (letter * 256 + target) (field w₁ (arcs_at base) k)) where
  pub tabled-arc : (count : ℕ) (all : List ℕ) (plains : List PlainArc) → Tabled w base count plain all plains → c < count → count ≤ 256
      → Tabled w₂ base count (plain + 1) all (plains ++ plain_arc c (letter_of letter) target ∷ [])
  tabled-arc count all plains t less few = record {
    table = part_same w w₂ configs count (arc-kept k₁ k₂).long (λ j l. (arc-kept k₁ k₂).below (configs + j) (omega arith)) ∙ t.table;
    distinct = t.distinct;
    counted = rw length-append (omega (arith, t.counted));
    sources = λ q m. ⊎_elim (λ k. t.sources q k) (λ k. let e : q ≡ plain_arc c (letter_of letter) target = Memᴰ.eq_of_singleton k in rw e less) (Memᴰ.append_cases plains m);
    list = λ l. rw (add-one, fields_snoc w₂ (arcs_at base) plain, map-append listed plains (plain_arc c (letter_of letter) target ∷ []))
        (ap₂ (λ (u v : List ℕ). u ++ v) (fields-ext w w₂ (arcs_at base) plain (λ j h. old l j h) ∙ t.list (omega arith)) (ap (λ (x : ℕ). x ∷ []) (new l)));
    rows = λ i j l. rows i j l;
  }
    where
      old : plain + 1 ≤ 2048 → (j : ℕ) → j < plain → field w₂ (arcs_at base) j ≡ field w (arcs_at base) j
      old l j h = put j ∙ rw (lt-ltb plain 2048 (omega arith), ne_eqb j plain (λ e. omega arith)) (field-same w w₁ (arcs_at base) j (k₁.above (arcs_at base + j / 4) (omega arith)))

      new : plain + 1 ≤ 2048 → field w₂ (arcs_at base) plain ≡ listed (plain_arc c (letter_of letter) target)
      new l = put plain ∙ rw (lt-ltb plain 2048 (omega arith), eq-eqb plain plain refl, letter-back letter)

      rows : (i j : ℕ) → i < count → T (related w₂ base i j) ↔ ((j ≡ i) ⊎ Moves (plains ++ plain_arc c (letter_of letter) target ∷ []) i none j)
      rows i j l =
          let a = or_iff (eqb letter 255 && eqb i c && eqb j target) (related w base i j) in
          let r = t.rows i j l in
          let e = empty-move letter c target i j in
          let m = moves-snoc plains (plain_arc c (letter_of letter) target) i none j in
          rw (related-kept w₁ w₂ base i k₂.long (λ k x y. k₂.below k (omega arith)) j, noted i j) (
            λ x. ⊎_elim (λ y. inr (m.1 (inr (e.1 y)))) (λ y. ⊎_elim (λ z. inl z) (λ z. inr (m.1 (inl z))) (r.0 y)) (a.0 x),
            λ x. a.1 (⊎_elim (λ y. inr (r.1 (inl y))) (λ y. ⊎_elim (λ z. inr (r.1 (inr z))) (λ z. inl (e.0 z)) (m.0 y)) x),
          )
