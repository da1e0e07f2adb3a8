-- VisitArcs: the rows of listed arcs' targets join the sets of their letters, one arc after the other.
use mathlib.Core.Path.{◌∙◌, ◌≡◌, ap, subst, sym}
use mathlib.Core.Logic.{◌↔◌, ◌⊎◌, inl, inr, ⊎_elim}
use mathlib.Core.Bool.{◌&&◌, ◌||◌}
use mathlib.Core.List.{List}
use Prim.Native.Nat.{◌%◌, ◌*◌, ◌+◌, ◌/◌, ◌<◌, ◌≤◌, ℕ}
use native.Mathlib.Decide.{ℕ_discrete}
use native.Mathlib.Omega.{arith}
use lib.Dec.{T, eqb, eqb→eq}
use Rattle.automata.proofs.Laws.{and-iff, eqb-iff, iff-trans, or_iff}
use Rattle.word_fields.specs.Frame.{Kept}
use Rattle.word_fields.proofs.Laws.{kept_same, kept_then, kept-wider}
use Rattle.word_sets.specs.Sets.{in_set}
use Rattle.word_rows.specs.Rows.{related}
use Rattle.table_sets.specs.Stepping.{Among, Room, plain_letter_at, set_of, target_at}
use Rattle.table_sets.proofs.Laws.{SameBlock, arc-kept, block-kept, related-kept}

-- the end of the list moved
pub upto : {w : List ℕ} {base from to p j : ℕ} (y : ℕ) (a : Among w base from to p j) → a.at < y → Among w base from y p j
upto y a g = record { at = a.at; low = a.low; high = g; letter = a.letter; leads = a.leads }

-- one arc more: it is that arc, or one before it
pub among-split : {w : List ℕ} {base from : ℕ} (k : ℕ) {p j : ℕ} → Among w base from (k + 1) p j
    → Among w base from k p j ⊎ ((plain_letter_at w base k ≡ p) × T (related w base (target_at w base k) j))
among-split {w} {base} {from} k {p} {j} a = go (ℕ_discrete a.at k)
  where
    go : Dec (a.at ≡ k) → Among w base from k p j ⊎ ((plain_letter_at w base k ≡ p) × T (related w base (target_at w base k) j))
    go (yes e) = inr (subst (λ (x : ℕ). (plain_letter_at w base x ≡ p) × T (related w base (target_at w base x) j)) e (a.letter, a.leads))
    go (no n) = let h = a.high in inl (upto k a (omega arith))

-- the arcs from `from` to before k have joined; `top` says that none of them is at `to` or behind it
pub record Visiting (w₀ : List ℕ) (base acc from to met₀ k : ℕ) (w : List ℕ) (met : ℕ) : Type 0 where
  pub low : from ≤ k
  pub top : (i : ℕ) → from ≤ i → i < k → i < to
  pub kept : Kept acc (acc + 256) w₀ w
  pub sets : (p j : ℕ) → p < 64 → T (in_set (set_of w acc met p) j) ↔ (T (in_set (set_of w₀ acc met₀ p) j) ⊎ Among w₀ base from k p j)

pub Visiting-start : (w : List ℕ) (base acc from to met : ℕ) → Visiting w base acc from to met from w met
Visiting-start w base acc from to met = record {
  low = omega arith;
  top = λ i l h. absurd (omega arith);
  kept = kept_same acc (acc + 256) w;
  sets = λ p j h. (λ t. inl t, λ s. ⊎_elim (λ t. t) (λ a. let l = a.low in let g = a.high in absurd (omega arith)) s);
}

-- a turn: arc k has `letter` and leads to `target`
module _ {w₀ w : List ℕ} {base acc from to met₀ k met letter target : ℕ} (r : Room w₀ base acc) (h : k < to) (few : to ≤ 2048)
    (v : Visiting w₀ base acc from to met₀ k w met) (e : letter ≡ plain_letter_at w base k) (f : target ≡ target_at w base k) where
  same : SameBlock base w₀ w
  same = block-kept v.kept r.apart

  here : letter ≡ plain_letter_at w₀ base k
  here = e ∙ ap (λ (x : ℕ). x / 256) (arc-kept same k (omega arith))

  on_top : (i : ℕ) → from ≤ i → i < k + 1 → i < to
  on_top i l m = go (ℕ_discrete i k)
    where
      go : Dec (i ≡ k) → i < to
      go (yes p) = omega arith
      go (no n) = v.top i l (omega arith)

  one_more : (p j : ℕ) → Among w₀ base from k p j → Among w₀ base from (k + 1) p j
  one_more p j a = let g = a.high in upto (k + 1) a (omega arith)

  -- no letter: nothing joins
  pub Visiting-skip : 64 ≤ letter → Visiting w₀ base acc from to met₀ (k + 1) w met
  Visiting-skip g = record {
    low = omega (arith, v.low);
    top = on_top;
    kept = v.kept;
    sets = λ p j l. (
      λ t. ⊎_elim (λ s. inl s) (λ a. inr (one_more p j a)) ((v.sets p j l).0 t),
      λ s. (v.sets p j l).1 (⊎_elim (λ t. inl t) (λ a. ⊎_elim (λ b. inr b) (λ b. absurd (omega (arith, b.0, here))) (among-split k a)) s),
    );
  }

  -- a letter: the row of the target joins its set
  pub Visiting-more : (w' : List ℕ) (met' : ℕ) → letter < 64 → Kept (acc + 4 * letter) (acc + 4 * letter + 4) w w'
      → ((p j : ℕ) → in_set (set_of w' acc met' p) j ≡ (in_set (set_of w acc met p) j || (eqb p letter && related w base target j)))
      → Visiting w₀ base acc from to met₀ (k + 1) w' met'
  Visiting-more w' met' g kk joins = record {
    low = omega (arith, v.low);
    top = on_top;
    kept = kept_then v.kept (kept-wider (omega arith) (omega arith) kk);
    sets = λ p j l. rw (joins p j) (iff-trans (or_iff (in_set (set_of w acc met p) j) (eqb p letter && related w base target j)) (on p j l, back p j l));
  }
    where
      lead : (j : ℕ) → related w base target j ≡ related w₀ base (target_at w₀ base k) j
      lead j = related-kept same target j (omega arith) ∙ ap (λ (x : ℕ). related w₀ base x j) (f ∙ ap (λ (x : ℕ). x % 256) (arc-kept same k (omega arith)))

      on : (p j : ℕ) → p < 64 → T (in_set (set_of w acc met p) j) ⊎ T (eqb p letter && related w base target j) → T (in_set (set_of w₀ acc met₀ p) j) ⊎ Among w₀ base from (k + 1) p j
      on p j l (inl t) = ⊎_elim (λ s. inl s) (λ a. inr (one_more p j a)) ((v.sets p j l).0 t)
      on p j l (inr t) =
          let q = (and-iff (eqb p letter) (related w base target j)).0 t in
          inr (record { at = k; low = v.low; high = omega arith; letter = sym here ∙ sym (eqb→eq p letter q.0); leads = subst T (lead j) q.1 })

      back : (p j : ℕ) → p < 64 → T (in_set (set_of w₀ acc met₀ p) j) ⊎ Among w₀ base from (k + 1) p j → T (in_set (set_of w acc met p) j) ⊎ T (eqb p letter && related w base target j)
      back p j l (inl t) = inl ((v.sets p j l).1 (inl t))
      back p j l (inr a) = ⊎_elim (λ b. inl ((v.sets p j l).1 (inr b)))
          (λ b. inr ((and-iff (eqb p letter) (related w base target j)).1 ((eqb-iff p letter).1 (sym b.0 ∙ sym here), subst T (sym (lead j)) b.1)))
          (among-split k a)

pub Visiting-end : {w₀ w : List ℕ} {base acc from to met₀ k met : ℕ} → to ≤ k → Visiting w₀ base acc from to met₀ k w met
    → (p j : ℕ) → p < 64 → T (in_set (set_of w acc met p) j) ↔ (T (in_set (set_of w₀ acc met₀ p) j) ⊎ Among w₀ base from to p j)
Visiting-end {to = to} {k = k} h v p j l = (
  λ t. ⊎_elim (λ s. inl s) (λ a. inr (upto to a (v.top a.at a.low a.high))) ((v.sets p j l).0 t),
  λ s. (v.sets p j l).1 (⊎_elim (λ t. inl t) (λ a. let g = a.high in inr (upto k a (omega arith))) s),
)
