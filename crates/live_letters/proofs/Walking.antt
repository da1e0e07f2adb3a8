-- Walking: every row in number order. Once i of them are expanded the table holds the entries of i turns of the exploration. Said once for
-- every search: `Known` is what the words that a search keeps tell of the sides, and the search writes between lo and hi.
use Rattle.std.proofs.Common.{Option, Some, None}
use mathlib.Core.Path.{◌∙◌, ◌≡◌, ap, refl, subst, sym}
use mathlib.Core.Logic.{inl}
use mathlib.Core.Bool.{Bool}
use mathlib.Core.List.{List, [], ◌∷◌}
use mathlib.Core.Option.{some-injective, some}
use Prim.Native.Nat.{◌+◌, ◌-◌, ◌<◌, ◌≤◌, suc, zero, ℕ}
use native.Mathlib.Numerals.{add-one}
use native.Mathlib.Omega.{arith}
use lib.ListN.{get_elem?, length}
use Rattle.automata.specs.Exploration.{add_all, known, targets, walk}
use Rattle.automata.specs.Pairs.{Pair, same_pair}
use Rattle.automata.specs.Search.{Entry, entries, next_entries, origin, same_entry}
use Rattle.automata.proofs.Laws.{get_elem?-some, known-ended, known-long, none-some}
use Rattle.word_fields.specs.Frame.{Kept}
use Rattle.word_fields.proofs.Laws.{kept_same, kept_then}
use Rattle.word_sets.specs.Sets.{ε_closed_set, view}
use Rattle.word_layout.specs.declared.SetTable.{SetTable}
use Rattle.live_table.specs.Entries.{Holds, Row, Side, alike, along}
use Rattle.live_table.specs.SetRows.{Added}
use Rattle.live_letters.specs.Meeting.{Grows, Outcome, Table}

-- what one expansion, of row i, tells
abbrev pub Expanded : (Known : Side → Side → Type 0) (tab : SetTable) (a i : ℕ) (w w' : List ℕ) (n : ℕ) → Option ℕ → Type 0
Expanded Known tab a i w w' n r =
    (s t : Side) (es : List (Entry Pair)) (e : Entry Pair) → Known s t → Holds tab s t w n es → get_elem? es i ≡ some e
    → Outcome 512 tab s t w' (add_all alike es (next_entries (along s t) a e)) r

-- what is known of the rows, once i of them are expanded
abbrev pub Walk : (Known : Side → Side → Type 0) (tab : SetTable) (a : ℕ) (w₀ w : List ℕ) (n i : ℕ) → Type 0
Walk Known tab a w₀ w n i =
    (s t : Side) (q : Pair) → Known s t → Holds tab s t w₀ 1 (origin q ∷ []) → Holds tab s t w n (entries same_pair (along s t) a q i)

walk_start : (Known : Side → Side → Type 0) (tab : SetTable) (a : ℕ) (w : List ℕ) → Walk Known tab a w w 1 0
unfolding entries known
walk_start Known tab a w s t q b h = h

module _ (tab : SetTable) (a : ℕ) (s t : Side) (q : Pair) where
  abbrev all : ℕ → List (Entry Pair)
  all i = entries same_pair (along s t) a q i

  next : (i : ℕ) (e : Entry Pair) → get_elem? (all i) i ≡ some e → add_all alike (all i) (next_entries (along s t) a e) ≡ all (i + 1)
  unfolding entries known walk
  next i e p =
      ap (λ o. add_all alike (all i) (targets (next_entries (along s t) a) o)) (sym p)
      ∙ ap (λ (k : ℕ). all k) (sym (add-one i))

  walk_more : {Known : Side → Side → Type 0} (w₀ w w' : List ℕ) (n i : ℕ) (r : Option ℕ) → i < n → Walk Known tab a w₀ w n i → Expanded Known tab a i w w' n r
      → Known s t → Holds tab s t w₀ 1 (origin q ∷ []) → Outcome 512 tab s t w' (all (i + 1)) r
  walk_more w₀ w w' n i r l g f b h =
      let m = g s t q b h in
      let e = get_elem?-some (all i) i (omega (arith, m.many)) in
      subst (λ (l : List (Entry Pair)). Outcome 512 tab s t w' l r) (next i e.0 e.1) (f s t (all i) e.0 b m e.1)

  -- too many at some turn are too many at the last
  walk-over : (i P : ℕ) → i < P → P < length (all (i + 1)) → P < length (all P)
  unfolding entries
  walk-over i P h l =
      let e : i + 1 + (P - (i + 1)) ≡ P = omega arith in
      omega (arith, known-long (same_entry same_pair) (next_entries (along s t) a) (origin q ∷ []) (i + 1) (P - (i + 1)), ap (λ (k : ℕ). length (all k)) e)

  -- where all are expanded, no turn adds another
  pub walk_end : {w : List ℕ} {n : ℕ} (i P : ℕ) → n ≤ i → i ≤ P → Holds tab s t w n (all i) → Holds tab s t w n (all P)
  unfolding entries
  walk_end {w} {n} i P l m h =
      let e : i + (P - i) ≡ P = omega arith in
      subst (λ (r : List (Entry Pair)). Holds tab s t w n r)
      (sym (known-ended (same_entry same_pair) (next_entries (along s t) a) (origin q ∷ []) i (P - i) (omega (arith, h.many))) ∙ ap (λ (k : ℕ). all k) e) h

-- ---- the invariant
pub record Walked (Known : Side → Side → Type 0) (tab : SetTable) (lo hi a : ℕ) (w₀ w : List ℕ) (n i : ℕ) : Type 0 where
  pub few : i ≤ n
  pub kept : Kept lo hi w₀ w
  pub some_row : 1 ≤ n
  pub table : Table a tab w n
  pub walk : Walk Known tab a w₀ w n i

pub walked_start : (Known : Side → Side → Type 0) (tab : SetTable) (lo hi a : ℕ) (w : List ℕ) → Table a tab w 1 → Walked Known tab lo hi a w w 1 0
walked_start Known tab lo hi a w t =
    record { few = omega arith; kept = kept_same lo hi w; some_row = omega arith; table = t; walk = walk_start Known tab a w }

module _ {Known : Side → Side → Type 0} {tab : SetTable} {lo hi a : ℕ} {w₀ w : List ℕ} {n i : ℕ} (w' : List ℕ) (r : Option ℕ) (h : i < n)
    (k : Walked Known tab lo hi a w₀ w n i) (kept : Kept lo hi w w') (grows : Grows a tab w' n r) (x : Expanded Known tab a i w w' n r) where
  pub walked_more : (m : ℕ) → r ≡ Some m → Walked Known tab lo hi a w₀ w' m (i + 1)
  walked_more m e =
      let g : Grows a tab w' n (Some m) = subst (λ (r : Option ℕ). Grows a tab w' n r) e grows in
      record {
        few = omega (arith, g.0);
        kept = kept_then k.kept kept;
        some_row = omega (arith, g.0);
        table = g.1;
        walk = λ s t q b o. walk_more tab a s t q w₀ w w' n i (Some m) h k.walk (subst (λ (r : Option ℕ). Expanded Known tab a i w w' n r) e x) b o;
      }

  pub Walked-over : r ≡ None → (s t : Side) (q : Pair) → Known s t → Holds tab s t w₀ 1 (origin q ∷ []) → 512 < length (entries same_pair (along s t) a q 512)
  Walked-over e s t q b o =
      walk-over tab a s t q i 512 (omega (arith, k.table.few))
      (walk_more tab a s t q w₀ w w' n i None h k.walk (subst (λ (r : Option ℕ). Expanded Known tab a i w w' n r) e x) b o)

-- ---- the first row, added to an empty table
pub table-start : {tab : SetTable} (a : ℕ) {w w' u v : List ℕ} {from : ℕ} → Added tab w w' 0 u v from → Table a tab w' 1
table-start a d = record { few = omega arith; tree = λ p h l. absurd (omega arith); chain = d.chain }

-- the set u is S, and closed under the empty moves of the side
abbrev pub Begins : Side → List Bool → List ℕ → Type 0
Begins s S u = (view s.size u ≡ S) × ε_closed_set s.size s.arcs u

pub holds-start : {tab : SetTable} (s t : Side) (q : Pair) {w w' u v : List ℕ} {from : ℕ} → Begins s q.left u → Begins t q.right v → Added tab w w' 0 u v from → Holds tab s t w' 1 (origin q ∷ [])
holds-start {tab} s t q {w} {w'} {u} {v} first second d = record { many = refl; each = go }
  where
    own : Row tab s t w' (origin q ∷ []) 0 (origin q)
    own = record {
      left = ap (view s.size) d.new.0 ∙ first.0;
      right = ap (view t.size) d.new.1 ∙ second.0;
      settled₁ = subst (λ (r : List ℕ). ε_closed_set s.size s.arcs r) (sym d.new.0) first.1;
      settled₂ = subst (λ (r : List ℕ). ε_closed_set t.size t.arcs r) (sym d.new.1) second.1;
      spelled = inl (refl, refl);
    }

    go : (i : ℕ) (e : Entry Pair) → get_elem? (origin q ∷ []) i ≡ some e → Row tab s t w' (origin q ∷ []) i e
    go zero e p = subst (λ (e : Entry Pair). Row tab s t w' (origin q ∷ []) 0 e) (some-injective _ e p) own
    go (suc i) e p = none-some refl p
