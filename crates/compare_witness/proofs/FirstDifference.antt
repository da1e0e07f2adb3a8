-- FirstDifference: what judging a row tells of its entry, and the first entry that differs.
use mathlib.Core.Path.{◌≡◌, refl, sym, ap, ap₂, ◌∙◌, subst}
use mathlib.Core.Logic.{◌↔◌, ◌≢◌}
use mathlib.Core.Bool.{Bool, false, not, true}
use mathlib.Core.Option.{none, some}
use mathlib.Core.List.{List, [], ◌∷◌}
use Prim.Native.Nat.{ℕ, zero, suc, ◌+◌, ◌≤◌, ◌<◌}
use native.Mathlib.Decide.{ℕ_discrete}
use native.Mathlib.Omega.{arith}
use borrow.Author.Tests.{ne_eqb}
use lib.Dec.{T, eqb}
use lib.ListN.{get_elem?}
use Rattle.automata.specs.Live.{meets}
use Rattle.automata.specs.Pairs.{Pair}
use Rattle.automata.specs.Search.{Entry, first_of}
use Rattle.automata.proofs.Laws.{get_elem?-lt}
use Rattle.word_sets.specs.Sets.{Within, in_set, view}
use Rattle.word_sets.proofs.Laws.{meets-view}
use Rattle.word_layout.specs.declared.SetTable.{SetTable}
use Rattle.live_table.specs.Entries.{Holds, Side}
use Rattle.live_table.specs.SetRows.{left_row, right_row}
use Rattle.compare_witness.specs.Spelled.{alone, differs_by, taker_by}

-- what is told of row i, of sets of numbers below m and below n
abbrev pub Judges : (tab : SetTable) (w : List ℕ) (i : ℕ) (f g : List ℕ) (r : ℕ) → Type 0
Judges tab w i f g r = (m n : ℕ) → Within m (left_row tab w i) → Within n (right_row tab w i)
    → r ≡ alone (meets (view m (left_row tab w i)) (view m f)) (meets (view n (right_row tab w i)) (view n g))

-- the two loaded sets a and b, and whether they meet f and g
pub judges : (tab : SetTable) (w : List ℕ) (i : ℕ) (f g a b : List ℕ) (x y X Y : Bool) → a ≡ left_row tab w i → b ≡ right_row tab w i
    → T x ↔ ((j : ℕ) × T (in_set a j) × T (in_set f j)) → T y ↔ ((j : ℕ) × T (in_set b j) × T (in_set g j)) → x ≡ X → y ≡ Y → Judges tab w i f g (alone X Y)
judges tab w i f g a b x y X Y ea eb hx hy ex ey m n p q =
    ap₂ alone
    (sym ex ∙ meets-view a f (subst (Within m) (sym ea) p) hx ∙ ap (λ (r : List ℕ). meets (view m r) (view m f)) ea)
    (sym ey ∙ meets-view b g (subst (Within n) (sym eb) q) hy ∙ ap (λ (r : List ℕ). meets (view n r) (view n g)) eb)

pub judge_entry : (tab : SetTable) (w : List ℕ) (i n : ℕ) (f g : List ℕ) (r : ℕ) → Judges tab w i f g r → (s t : Side) (es : List (Entry Pair)) (e : Entry Pair) → Holds tab s t w n es → get_elem? es i ≡ some e
    → taker_by (view s.size f) (view t.size g) e.state ≡ r
unfolding taker_by
judge_entry tab w i n f g r told s t es e h p =
    let o = h.each i e p in
    sym (told s.size t.size o.settled₁.0 o.settled₂.0 ∙ ap₂ (λ (S R : List Bool). alone (meets S (view s.size f)) (meets R (view t.size g))) o.left o.right)

-- none of the first i entries differs
abbrev pub NoneBefore : (tab : SetTable) (w : List ℕ) (n : ℕ) (f g : List ℕ) (i : ℕ) → Type 0
NoneBefore tab w n f g i = (s t : Side) (es : List (Entry Pair)) → Holds tab s t w n es → (j : ℕ) (e : Entry Pair) → j < i → get_elem? es j ≡ some e → differs_by (view s.size f) (view t.size g) e.state ≡ false

first-at : {A : Type 0} (f : A → Bool) (es : List A) (r : ℕ) → ((j : ℕ) (x : A) → j < r → get_elem? es j ≡ some x → f x ≡ false) → ((x : A) → get_elem? es r ≡ some x → f x ≡ true) → first_of f es ≡ get_elem? es r
unfolding first_of
first-at f [] r b a = refl
first-at f (y ∷ es) zero b a = rw (a y refl, first_of)
first-at f (y ∷ es) (suc r) b a = rw (b 0 y (omega arith) refl, first_of) (first-at f es r (λ j x h p. b (suc j) x (omega arith) p) a)

first-none : {A : Type 0} (f : A → Bool) (es : List A) → ((j : ℕ) (x : A) → get_elem? es j ≡ some x → f x ≡ false) → first_of f es ≡ none
unfolding first_of
first-none f [] b = refl
first-none f (y ∷ es) b = rw (b 0 y refl, first_of) (first-none f es (λ j x p. b (suc j) x p))

module _ (tab : SetTable) (w : List ℕ) (n : ℕ) (f g : List ℕ) where
  pub none_more : (i r : ℕ) → Judges tab w i f g r → r ≡ 0 → NoneBefore tab w n f g i → NoneBefore tab w n f g (i + 1)
  none_more i r told z before s t es h j e l p = go (ℕ_discrete j i)
    where
      go : Dec (j ≡ i) → differs_by (view s.size f) (view t.size g) e.state ≡ false
      go (yes q) = ap (λ (k : ℕ). not (eqb k 0)) (judge_entry tab w i n f g r told s t es e h (subst (λ (k : ℕ). get_elem? es k ≡ some e) q p) ∙ z)
      go (no q) = before s t es h j e (omega arith) p

  pub first_found : (i r : ℕ) → Judges tab w i f g r → r ≢ 0 → NoneBefore tab w n f g i
      → (s t : Side) (es : List (Entry Pair)) → Holds tab s t w n es → first_of (λ (e : Entry Pair). differs_by (view s.size f) (view t.size g) e.state) es ≡ get_elem? es i
  first_found i r told nz before s t es h = first-at (λ (e : Entry Pair). differs_by (view s.size f) (view t.size g) e.state) es i (before s t es h)
      (λ e p. ap not (ap (λ (k : ℕ). eqb k 0) (judge_entry tab w i n f g r told s t es e h p) ∙ ne_eqb r 0 nz))

  pub first-nowhere : (i : ℕ) → n ≤ i → NoneBefore tab w n f g i
      → (s t : Side) (es : List (Entry Pair)) → Holds tab s t w n es → first_of (λ (e : Entry Pair). differs_by (view s.size f) (view t.size g) e.state) es ≡ none
  first-nowhere i l before s t es h = first-none (λ (e : Entry Pair). differs_by (view s.size f) (view t.size g) e.state) es (λ j x p. before s t es h j x (omega (arith, get_elem?-lt es j p, h.many)) p)
