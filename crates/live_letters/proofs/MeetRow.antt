-- MeetRow: a row that is met joins the table just if what it stands for joins a list; and so of the entries of an exploration.
use Rattle.std.proofs.Common.{Option, Some, None}
use mathlib.Core.Path.{◌∙◌, ◌≡◌, ap, subst, sym}
use mathlib.Core.Logic.{◌⊎◌, inl, inr, ⊎_elim}
use mathlib.Core.Bool.{Bool, ◌||◌, true, false}
use mathlib.Core.List.{List, [], ◌++◌, ◌∷◌}
use mathlib.Core.Option.{some}
use Prim.Native.Nat.{◌%◌, ◌*◌, ◌+◌, ◌/◌, ◌<◌, ◌≤◌, ℕ}
use native.Mathlib.Decide.{ℕ_discrete}
use native.Mathlib.Omega.{arith}
use lib.Dec.{T}
use lib.ListN.{get_elem?, length, length-append}
use Rattle.automata.specs.Exploration.{add, has}
use Rattle.automata.specs.Pairs.{Pair}
use Rattle.automata.specs.Search.{Entry}
use Rattle.automata.proofs.Laws.{add-cases, at_mem, Bool-ext, get_elem?-append, get_elem?-lt, get_elem?-some, has-iff, mem_at, same_pair-iff, snoc_at_cases}
use Rattle.word_fields.specs.Fields.{field}
use Rattle.word_fields.specs.Frame.{Kept}
use Rattle.word_fields.proofs.Laws.{kept_same}
use Rattle.word_sets.specs.Sets.{ε_closed_set, Within, in_set, view}
use Rattle.word_sets.proofs.Laws.{In-view}
use Rattle.word_layout.specs.Layout.{parents_at, table_end}
use Rattle.word_layout.specs.declared.SetTable.{SetTable}
use Rattle.live_table.specs.Entries.{Holds, Row, Side, alike, letter_of, parent_of}
use Rattle.live_table.specs.SetRows.{Added, Lacking, Met, RowAt, left_row, right_row}
use Rattle.live_letters.specs.Meeting.{EmptyRow, Grows, Outcome, Table}

-- ---- whatever the words stand for
pub met-kept : (tab : SetTable) (w w' u v : List ℕ) (n from : ℕ) (r : Option ℕ) → Met tab w w' n u v from r → Kept tab.rows (table_end tab) w w'
met-kept tab w w' u v n from None f = subst (λ (x : List ℕ). Kept tab.rows (table_end tab) w x) (sym f.same) (kept_same tab.rows (table_end tab) w)
met-kept tab w w' u v n from (Some m) (inl o) = subst (λ (x : List ℕ). Kept tab.rows (table_end tab) w x) (sym o.same) (kept_same tab.rows (table_end tab) w)
met-kept tab w w' u v n from (Some m) (inr o) = o.added.kept

module _ (a : ℕ) (tab : SetTable) (w w' u v : List ℕ) (n i l : ℕ) (hi : i < n) (hl : l < a) (ha : a ≤ 64) (t : Table a tab w n) where
  pub met-grows : (r : Option ℕ) → Met tab w w' n u v (i * 64 + l) r → Grows a tab w' n r
  met-grows None f = tt
  met-grows (Some m) (inl o) =
      (omega (arith, o.many), subst (λ (k : ℕ). Table a tab w' k) (sym o.many) (subst (λ (x : List ℕ). Table a tab x n) (sym o.same) t))
  met-grows (Some m) (inr o) =
      (omega (arith, o.many), subst (λ (k : ℕ). Table a tab w' k) (sym o.many) (record { few = omega (arith, o.room); tree = λ p h q. go p h q (ℕ_discrete p n); chain = o.added.chain }))
    where
      go : (p : ℕ) → 0 < p → p < n + 1 → Dec (p ≡ n) → (parent_of tab w' p < p) × (letter_of tab w' p < a)
      go p h q (yes e) = let f : field w' (parents_at tab) p ≡ i * 64 + l = ap (field w' (parents_at tab)) e ∙ o.added.own in (omega arith, omega arith)
      go p h q (no f) = subst (λ (x : ℕ). (x / 64 < p) × (x % 64 < a)) (sym (o.added.others p (omega arith))) (t.tree p h (omega arith))

-- once a letter is met by neither side, the row of two empty sets is known
pub dead_more : (tab : SetTable) (w w' u v : List ℕ) (n from m : ℕ) (dead none : Bool) → (T dead → EmptyRow tab w n) → (T none → (u ≡ 0 ∷ 0 ∷ 0 ∷ 0 ∷ []) × (v ≡ 0 ∷ 0 ∷ 0 ∷ 0 ∷ []))
    → Met tab w w' n u v from (Some m) → T (dead || none) → EmptyRow tab w' m
dead_more tab w w' u v n from m true none d f (inl o) x =
    let e = d tt in
    let l = e.low in
    record { place = e.place; low = omega (arith, o.many); is = subst (λ (x : List ℕ). RowAt tab x (0 ∷ 0 ∷ 0 ∷ 0 ∷ []) (0 ∷ 0 ∷ 0 ∷ 0 ∷ []) e.place) (sym o.same) e.is }
dead_more tab w w' u v n from m true none d f (inr o) x =
    let e = d tt in
    let l = e.low in
    let k = o.added.old e.place e.low in
    record { place = e.place; low = omega (arith, o.many); is = (k.0 ∙ e.is.0, k.1 ∙ e.is.1) }
dead_more tab w w' u v n from m false true d f (inl o) x =
    let z = f tt in
    let l = o.low in
    let k : RowAt tab w' u v o.place = subst (λ (x : List ℕ). RowAt tab x u v o.place) (sym o.same) o.is in
    record { place = o.place; low = omega (arith, o.many); is = (k.0 ∙ z.0, k.1 ∙ z.1) }
dead_more tab w w' u v n from m false true d f (inr o) x = let z = f tt in record { place = n; low = omega (arith, o.many); is = (o.added.new.0 ∙ z.0, o.added.new.1 ∙ z.1) }
dead_more tab w w' u v n from m false false d f o x = absurd x

-- ---- what the rows stand for, whatever that is: `Held w n xs` says that the first n are xs
-- x is one of these now, or they are more than 512
abbrev pub Joined : {X : Type 0} (same : X → X → Bool) (Held : List ℕ → ℕ → List X → Type 0) (w : List ℕ) (xs : List X) (x : X) → Option ℕ → Type 0
Joined same Held w xs x None = 512 < length (add same xs x)
Joined same Held w xs x (Some k) = Held w k (add same xs x)

module _ {X : Type 0} (same : X → X → Bool) (Held : List ℕ → ℕ → List X → Type 0) {tab : SetTable} {w w' u v : List ℕ} {n from : ℕ} {xs : List X} (x : X) (h : Held w n xs) (many : length xs ≡ n)
    (lacks-none : Lacking tab w n u v → ¬ T (has same x xs)) (has-old : (place : ℕ) → place < n → RowAt tab w u v place → T (has same x xs))
    (more : Added tab w w' n u v from → Held w' (n + 1) (xs ++ x ∷ [])) where
  -- THE LAW. Meeting the row of u and v, which stands for x, is adding x
  pub met-joins : (r : Option ℕ) → Met tab w w' n u v from r → Joined same Held w' xs x r
  met-joins None m = ⊎_elim
      (λ c. absurd (lacks-none m.lacks c.0))
      (λ c. omega (arith, ap length c.1, length-append xs (x ∷ []), many, m.many))
      (add-cases same xs x)
  met-joins (Some k) (inl o) = ⊎_elim
      (λ c. rw (c.1, o.many, o.same) h)
      (λ c. absurd (c.0 (has-old o.place o.low o.is)))
      (add-cases same xs x)
  met-joins (Some k) (inr o) = ⊎_elim
      (λ c. absurd (lacks-none o.lacks c.0))
      (λ c. rw (c.1, o.many) (more o.added))
      (add-cases same xs x)

-- ---- what the words stand for
-- equal views, of sets of numbers below n, have the same members
pub same-members : {n : ℕ} (s t : List ℕ) → Within n s → Within n t → view n s ≡ view n t → (j : ℕ) → in_set s j ≡ in_set t j
same-members {n} s t ws wt e j =
    Bool-ext (in_set s j) (in_set t j) (λ x. ((In-view n t j).0 (rw e at ((In-view n s j).1 (ws j x, x)))).1) (λ x. ((In-view n s j).0 (rw (← e) at ((In-view n t j).1 (wt j x, x)))).1)

module _ (tab : SetTable) (s t : Side) (w : List ℕ) (n : ℕ) (u v : List ℕ) (es : List (Entry Pair)) (x : Entry Pair) (h : Holds tab s t w n es)
    (p : (view s.size u ≡ x.state.left) × ε_closed_set s.size s.arcs u) (q : (view t.size v ≡ x.state.right) × ε_closed_set t.size t.arcs v) where
  lacks-none : Lacking tab w n u v → ¬ T (has alike x es)
  lacks-none k c =
      let y = (has-iff alike x es).0 c in
      let m = mem_at y.1 in
      let r = h.each m.0 y.0 m.1 in
      let e : x.state ≡ y.0.state = (same_pair-iff x.state y.0.state).0 y.2 in
      k m.0 (omega (arith, get_elem?-lt es m.0 m.1, h.many))
      (same-members (left_row tab w m.0) u r.settled₁.0 p.1.0 (r.left ∙ ap (λ (z : Pair). z.left) (sym e) ∙ sym p.0))
      (same-members (right_row tab w m.0) v r.settled₂.0 q.1.0 (r.right ∙ ap (λ (z : Pair). z.right) (sym e) ∙ sym q.0))

  has-old : (place : ℕ) → place < n → RowAt tab w u v place → T (has alike x es)
  has-old place l at =
      let y = get_elem?-some es place (omega (arith, h.many)) in
      let r = h.each place y.0 y.1 in
      let e : x.state.left ≡ y.0.state.left = sym p.0 ∙ ap (view s.size) (sym at.0) ∙ r.left in
      let f : x.state.right ≡ y.0.state.right = sym q.0 ∙ ap (view t.size) (sym at.1) ∙ r.right in
      (has-iff alike x es).1 (y.0, at_mem es place y.1, (same_pair-iff x.state y.0.state).1 (λ i. record { left = e i; right = f i }))

  module _ (w' : List ℕ) (i l : ℕ) (e : Entry Pair) (stands : get_elem? es i ≡ some e) (hl : l < 64) (spell : x.word ≡ e.word ++ l ∷ []) where
    abbrev more : List (Entry Pair)
    more = es ++ x ∷ []

    holds_more : Added tab w w' n u v (i * 64 + l) → Holds tab s t w' (n + 1) more
    holds_more d = record { many = length-append es (x ∷ []) ∙ omega (arith, h.many); each = λ j f g. go j f g (snoc_at_cases es x j g) }
      where
        new : Row tab s t w' more n x
        new = record {
          left = ap (view s.size) d.new.0 ∙ p.0;
          right = ap (view t.size) d.new.1 ∙ q.0;
          settled₁ = subst (λ (r : List ℕ). ε_closed_set s.size s.arcs r) (sym d.new.0) p.1;
          settled₂ = subst (λ (r : List ℕ). ε_closed_set t.size t.arcs r) (sym d.new.1) q.1;
          spelled = inr (record {
            later = omega (arith, get_elem?-lt es i stands, h.many);
            parent = e;
            stands = let k : parent_of tab w' n ≡ i = omega (arith, d.own) in ap (λ (k : ℕ). get_elem? more k) k ∙ get_elem?-append es (x ∷ []) i stands;
            spells = let k : l ≡ letter_of tab w' n = omega (arith, d.own) in spell ∙ ap (λ (k : ℕ). e.word ++ k ∷ []) k;
          });
        }

        go : (j : ℕ) (f : Entry Pair) → get_elem? more j ≡ some f → (get_elem? es j ≡ some f) ⊎ ((length es ≤ j) × (f ≡ x)) → Row tab s t w' more j f
        go j f g (inl b) =
            let r = h.each j f b in
            let k : j < n = omega (arith, get_elem?-lt es j b, h.many) in
            let o = d.old j k in
            record {
              left = ap (view s.size) o.0 ∙ r.left;
              right = ap (view t.size) o.1 ∙ r.right;
              settled₁ = subst (λ (r : List ℕ). ε_closed_set s.size s.arcs r) (sym o.0) r.settled₁;
              settled₂ = subst (λ (r : List ℕ). ε_closed_set t.size t.arcs r) (sym o.1) r.settled₂;
              spelled = ⊎_elim (λ b. inl b) (λ c. inr (record {
                later = c.later;
                parent = c.parent;
                stands = ap (λ (k : ℕ). get_elem? more (k / 64)) (d.others j k) ∙ get_elem?-append es (x ∷ []) (parent_of tab w j) c.stands;
                spells = c.spells ∙ ap (λ (k : ℕ). c.parent.word ++ (k % 64) ∷ []) (sym (d.others j k));
              })) r.spelled;
            }
        go j f g (inr b) =
            let k : j ≡ n = omega (arith, get_elem?-lt more j g, length-append es (x ∷ []), h.many, b.0) in
            subst (λ (j : ℕ). Row tab s t w' more j f) (sym k) (subst (λ (f : Entry Pair). Row tab s t w' more n f) (sym b.1) new)

    joins : (r : Option ℕ) → Met tab w w' n u v (i * 64 + l) r → Joined alike (Holds tab s t) w' es x r
    joins = met-joins alike (Holds tab s t) x h h.many lacks-none has-old holds_more

    -- THE LAW. Meeting the row is adding its entry
    pub met : (r : Option ℕ) → Met tab w w' n u v (i * 64 + l) r → Outcome 512 tab s t w' (add alike es x) r
    met None m = joins None m
    met (Some k) m = joins (Some k) m
