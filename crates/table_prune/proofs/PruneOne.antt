-- PruneOne: of one configuration's listed arcs those that add something are written down, one after the other.
use mathlib.Core.Path.{◌∙◌, ◌≡◌, ap, refl, subst, sym}
use mathlib.Core.Logic.{◌↔◌, ◌⊎◌, inl, inr, ⊎_elim}
use mathlib.Core.Bool.{◌&&◌, ◌||◌, cond}
use mathlib.Core.List.{List}
use Prim.Native.Nat.{◌%◌, ◌*◌, ◌+◌, ◌/◌, ◌<◌, ◌≤◌, ℕ}
use native.Mathlib.Omega.{arith}
use borrow.Author.Tests.{eq-eqb, ne_eqb}
use lib.Dec.{T, eqb}
use Rattle.automata.proofs.Laws.{and-iff, eqb-iff, or_iff}
use Rattle.word_layout.specs.Layout.{arcs_at, packed_arc, starts_at}
use Rattle.word_fields.specs.Fields.{field}
use Rattle.word_fields.specs.Frame.{Kept, KeptBut}
use Rattle.word_fields.proofs.Laws.{but_high, but_low, but_same, but_then, field-same}
use Rattle.word_sets.specs.Sets.{in_set}
use Rattle.word_rows.specs.Rows.{related}
use Rattle.word_rows.proofs.Laws.{row_below, row_same}
use Rattle.table_sets.specs.Stepping.{Among, plain_letter_at, set_of, target_at}
use Rattle.table_sets.proofs.Laws.{same-sets}
use Rattle.table_list_steps.proofs.Laws.{among-split, upto}

-- the rows of a block are as they were
abbrev pub SameRows : ℕ → List ℕ → List ℕ → Type 0
SameRows base w w' = (t j : ℕ) → t < 256 → related w' base t j ≡ related w base t j

pub rows-kept : (base acc : ℕ) {d : ℕ} {w w' : List ℕ} → KeptBut acc (acc + 256) (arcs_at base) d w w' → acc + 256 ≤ base → SameRows base w w'
unfolding related
rows-kept base acc {w = w} {w' = w'} k h t j l = ap (λ (s : List ℕ). in_set s j) (row_same w w' base t k.long (λ q m. k.between (base + 4 * t + q) (omega arith) (omega arith)))

pub among_same : {v w : List ℕ} {base from to p j : ℕ} → ((i : ℕ) → from ≤ i → i < to → field v (arcs_at base) i ≡ field w (arcs_at base) i) → SameRows base w v
    → Among v base from to p j → Among w base from to p j
among_same {v} {w} {base} {from} {to} {p} {j} f rows a =
    let e = f a.at a.low a.high in
    record {
      at = a.at;
      low = a.low;
      high = a.high;
      letter = ap (λ (x : ℕ). x / 256) (sym e) ∙ a.letter;
      leads = subst T (rows (field w (arcs_at base) a.at % 256) j (omega arith)) (subst (λ (x : ℕ). T (related v base (x % 256) j)) e a.leads);
    }

-- the arc at k is listed too
grow : (v w : List ℕ) {base from k letter target : ℕ} → from ≤ k → letter ≡ plain_letter_at v base k → target ≡ target_at v base k → ((i : ℕ) → from ≤ i → i < k → field v (arcs_at base) i ≡ field w (arcs_at base) i) → SameRows base w v
    → (p j : ℕ) → Among v base from (k + 1) p j ↔ (Among w base from k p j ⊎ ((letter ≡ p) × T (related w base target j)))
grow v w {base} {from} {k} {letter} {target} low is to same rows p j = (
  λ a. ⊎_elim (λ b. inl (among_same same rows b))
      (λ b. inr (is ∙ b.0, subst T (rows target j (omega arith)) (subst (λ (x : ℕ). T (related v base x j)) (sym to) b.1)))
      (among-split k a),
  λ s. ⊎_elim (λ b. let c : Among v base from k p j = among_same (λ i l h. sym (same i l h)) (λ t j l. sym (rows t j l)) b in let g = c.high in upto (k + 1) c (omega arith))
      (λ b. record {
        at = k;
        low = low;
        high = omega arith;
        letter = sym is ∙ b.0;
        leads = subst (λ (x : ℕ). T (related v base x j)) to (subst T (sym (rows target j (omega arith))) b.1);
      }) s,
)

-- of the arcs from `from` to before k those that add something to the sets, which were told by met₀ at first, are listed from `kept` to
-- before `end`
pub record Thinning (w₀ : List ℕ) (base acc from to kept met₀ k : ℕ) (w : List ℕ) (met end : ℕ) : Type 0 where
  pub start : from ≤ k
  pub high : k ≤ to
  pub low : kept ≤ end
  pub behind : end ≤ k
  pub frame : KeptBut acc (acc + 256) (arcs_at base) (starts_at base) w₀ w
  pub rest : (i : ℕ) → (i < kept) ⊎ (end ≤ i) → field w (arcs_at base) i ≡ field w₀ (arcs_at base) i
  pub sets : (p j : ℕ) → p < 64 → T (in_set (set_of w acc met p) j) → T (in_set (set_of w₀ acc met₀ p) j) ⊎ Among w base kept end p j
  pub sound : (p j : ℕ) → Among w base kept end p j → Among w₀ base from k p j
  pub full : (p j : ℕ) → p < 64 → Among w₀ base from k p j → T (in_set (set_of w acc met p) j)

pub Thinning-start : (w : List ℕ) (base acc from to kept met : ℕ) → kept ≤ from → from ≤ to → Thinning w base acc from to kept met from w met kept
Thinning-start w base acc from to kept met h g = record {
  start = omega arith;
  high = g;
  low = omega arith;
  behind = h;
  frame = but_same acc (acc + 256) (arcs_at base) (starts_at base) w;
  rest = λ i s. refl;
  sets = λ p j l t. inl t;
  sound = λ p j a. nothing a;
  full = λ p j l a. nothing a;
}
  where
    nothing : {at p j : ℕ} {A : Type 0} → Among w base at at p j → A
    nothing a = let l = a.low in let m = a.high in absurd (omega arith)

-- a turn: arc k has `letter` and leads to `target`
module _ {w₀ w : List ℕ} {base acc from to kept met₀ k met end letter target : ℕ} (apart : acc + 256 ≤ base) (h : k < to) (few : to ≤ 2048)
    (v : Thinning w₀ base acc from to kept met₀ k w met end) (e : letter ≡ plain_letter_at w base k) (to_is : target ≡ target_at w base k) where
  rows : SameRows base w₀ w
  rows = rows-kept base acc v.frame apart

  old-more : (p j : ℕ) → Among w₀ base from (k + 1) p j ↔ (Among w₀ base from k p j ⊎ ((letter ≡ p) × T (related w₀ base target j)))
  old-more = grow w₀ w₀ v.start (e ∙ ap (λ (x : ℕ). x / 256) (v.rest k (inr v.behind))) (to_is ∙ ap (λ (x : ℕ). x % 256) (v.rest k (inr v.behind))) (λ i l g. refl) (λ t j l. refl)

  -- it adds nothing
  pub Thinning-skip : (letter < 64 → (j : ℕ) → T (related w base target j) → T (in_set (set_of w acc met letter) j)) → Thinning w₀ base acc from to kept met₀ (k + 1) w met end
  Thinning-skip dull = record {
    start = omega (arith, v.start);
    high = omega arith;
    low = v.low;
    behind = omega (arith, v.behind);
    frame = v.frame;
    rest = v.rest;
    sets = v.sets;
    sound = λ p j a. (old-more p j).1 (inl (v.sound p j a));
    full = λ p j l a. ⊎_elim (λ b. v.full p j l b) (λ b. told p j l b) ((old-more p j).0 a);
  }
    where
      told : (p j : ℕ) → p < 64 → (letter ≡ p) × T (related w₀ base target j) → T (in_set (set_of w acc met p) j)
      told p j l b = subst (λ (x : ℕ). T (in_set (set_of w acc met x) j)) b.0 (dull (omega (arith, b.0)) j (subst T (sym (rows target j (omega arith))) b.1))

  -- it is listed from `kept` on, and the row of its target has joined the set of its letter
  module _ {w₁ w₂ : List ℕ} (met' : ℕ) (small : letter < 64) (kk : Kept (acc + 4 * letter) (acc + 4 * letter + 4) w w₁)
      (f : (p j : ℕ) → in_set (set_of w₁ acc met' p) j ≡ (in_set (set_of w acc met p) j || (eqb p letter && related w base target j)))
      (pp : Kept (arcs_at base + end / 4) (arcs_at base + end / 4 + 1) w₁ w₂) (put : (i : ℕ) → field w₂ (arcs_at base) i ≡ cond (eqb i end) (packed_arc letter target) (field w₁ (arcs_at base) i)) where
    other : (i : ℕ) → ¬ (i ≡ end) → field w₂ (arcs_at base) i ≡ field w (arcs_at base) i
    other i n = put i ∙ ap (λ b. cond b (packed_arc letter target) (field w₁ (arcs_at base) i)) (ne_eqb i end n) ∙ field-same w w₁ (arcs_at base) i (kk.above (arcs_at base + i / 4) (omega arith))

    written : packed_arc letter target ≡ field w₂ (arcs_at base) end
    written = sym (put end ∙ ap (λ b. cond b (packed_arc letter target) (field w₁ (arcs_at base) end)) (eq-eqb end end refl))

    changed : KeptBut acc (acc + 256) (arcs_at base) (starts_at base) w w₂
    changed = but_then (but_low (omega arith) (omega arith) (omega arith) kk) (but_high (omega arith) (omega arith) (omega (arith, v.behind)) pp)

    new-more : (p j : ℕ) → Among w₂ base kept (end + 1) p j ↔ (Among w base kept end p j ⊎ ((letter ≡ p) × T (related w base target j)))
    new-more = grow w₂ w v.low (omega (arith, written, to_is)) (omega (arith, written, to_is)) (λ i l g. other i (λ q. absurd (omega arith))) (rows-kept base acc changed apart)

    gained : (p j : ℕ) → p < 64 → T (in_set (set_of w₂ acc met' p) j) ↔ (T (in_set (set_of w acc met p) j) ⊎ ((letter ≡ p) × T (related w base target j)))
    gained p j l = rw (same-sets w₁ w₂ acc met' met' p refl (row_below acc p pp (omega arith)), f p j) (
      λ t. ⊎_elim (λ s. inl s) (λ s. let q = (and-iff (eqb p letter) (related w base target j)).0 s in inr (sym ((eqb-iff p letter).0 q.0), q.1)) ((both p j).0 t),
      λ s. (both p j).1 (⊎_elim (λ t. inl t) (λ b. inr ((and-iff (eqb p letter) (related w base target j)).1 ((eqb-iff p letter).1 (sym b.0), b.1))) s),
    )
      where
        both : (p j : ℕ) → T (in_set (set_of w acc met p) j || (eqb p letter && related w base target j)) ↔ (T (in_set (set_of w acc met p) j) ⊎ T (eqb p letter && related w base target j))
        both p j = or_iff (in_set (set_of w acc met p) j) (eqb p letter && related w base target j)

    pub Thinning-more : Thinning w₀ base acc from to kept met₀ (k + 1) w₂ met' (end + 1)
    Thinning-more = record {
      start = omega (arith, v.start);
      high = omega arith;
      low = omega (arith, v.low);
      behind = omega (arith, v.behind);
      frame = but_then v.frame changed;
      rest = λ i s. ⊎_elim (λ g. other i (λ q. absurd (omega (arith, v.low))) ∙ v.rest i (inl g)) (λ g. other i (λ q. absurd (omega arith)) ∙ v.rest i (inr (omega arith))) s;
      sets = λ p j l t. ⊎_elim (λ s. ⊎_elim (λ had. inl had) (λ a. inr ((new-more p j).1 (inl a))) (v.sets p j l s)) (λ b. inr ((new-more p j).1 (inr b))) ((gained p j l).0 t);
      sound = λ p j a. (old-more p j).1 (⊎_elim (λ b. inl (v.sound p j b)) (λ b. inr (b.0, subst T (rows target j (omega arith)) b.1)) ((new-more p j).0 a));
      full = λ p j l a. (gained p j l).1 (⊎_elim (λ b. inl (v.full p j l b)) (λ b. inr (b.0, subst T (sym (rows target j (omega arith))) b.1)) ((old-more p j).0 a));
    }

-- THE LAW. What is listed from `kept` on was listed, and tells what was, but for what the sets had at first.
module _ {w₀ w : List ℕ} {base acc from to kept met₀ k met end : ℕ} (h : to ≤ k) (v : Thinning w₀ base acc from to kept met₀ k w met end) where
  all : k ≡ to
  all = omega (arith, v.high)

  pub thinned_sound : (p j : ℕ) → Among w base kept end p j → Among w₀ base from to p j
  thinned_sound p j a = subst (λ (x : ℕ). Among w₀ base from x p j) all (v.sound p j a)

  pub thinned_full : (p j : ℕ) → p < 64 → Among w₀ base from to p j → T (in_set (set_of w₀ acc met₀ p) j) ⊎ Among w base kept end p j
  thinned_full p j l a = v.sets p j l (v.full p j l (subst (λ (x : ℕ). Among w₀ base from x p j) (sym all) a))
