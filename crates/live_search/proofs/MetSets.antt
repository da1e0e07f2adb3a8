-- MetSets: a set that is met in a table with one set to a row joins the list of the sets that stand there, just if that list lacks it.
use Rattle.std.proofs.Common.{Option, Some, None}
use mathlib.Core.Path.{◌∙◌, ◌≡◌, ap, subst, sym}
use mathlib.Core.Logic.{◌⊎◌, inl, inr}
use mathlib.Core.Bool.{Bool}
use mathlib.Core.List.{List, [], ◌++◌, ◌∷◌, map}
use mathlib.Core.Option.{some}
use Prim.Native.Nat.{◌*◌, ◌+◌, ◌<◌, ◌≤◌, ℕ}
use native.Mathlib.Omega.{arith}
use lib.Dec.{T}
use lib.ListN.{get_elem?, length, length-append}
use Rattle.automata.specs.Exploration.{add, add_all, has}
use Rattle.automata.specs.Lists.{Each}
use Rattle.automata.specs.Live.{PlainArc}
use Rattle.automata.specs.LiveSets.{same_set}
use Rattle.automata.proofs.Laws.{add_all-length, at_mem, get_elem?-lt, get_elem?-some, has-iff, mem_at, same_set-iff, snoc_at_cases}
use Rattle.word_sets.specs.Sets.{in_set, view, ε_closed_set}
use Rattle.word_layout.specs.declared.SetTable.{SetTable}
use Rattle.live_table.specs.SetRows.{Added, Lacking, Met, RowAt, left_row}
use Rattle.live_letters.proofs.Laws.{met_all, Joined, met-joins, same-members}
use Rattle.live_letters.specs.MeetingAll.{MetAll}
use Rattle.live_table.proofs.Laws.{same_row}
use Rattle.live_search.specs.Exploring.{Sets, SetsOutcome}

module _ (count : ℕ) (arcs : List PlainArc) (tab : SetTable) (one : tab.sets ≡ 1) where
  -- u is the set S, which no empty move leaves
  abbrev Is : List ℕ → List Bool → Type 0
  Is u S = (view count u ≡ S) × ε_closed_set count arcs u

  module _ (w : List ℕ) (n : ℕ) (u : List ℕ) (known : List (List Bool)) (S : List Bool) (h : Sets count arcs tab w n known) (p : Is u S) where
    lacks-none : Lacking tab w n u u → ¬ T (has same_set S known)
    lacks-none k c =
        let y = (has-iff same_set S known).0 c in
        let m = mem_at y.1 in
        let r = h.each m.0 y.0 m.1 in
        let same = same-members (left_row tab w m.0) u r.1.0 p.1.0 (r.0 ∙ sym ((same_set-iff S y.0).0 y.2) ∙ sym p.0) in
        k m.0 (omega (arith, get_elem?-lt known m.0 m.1, h.many)) same (λ j. ap (λ (v : List ℕ). in_set v j) (same_row tab one w m.0) ∙ same j)

    has-old : (place : ℕ) → place < n → RowAt tab w u u place → T (has same_set S known)
    has-old place l at =
        let y = get_elem?-some known place (omega (arith, h.many)) in
        let r = h.each place y.0 y.1 in
        (has-iff same_set S known).1 (y.0, at_mem known place y.1, (same_set-iff S y.0).1 (sym p.0 ∙ ap (view count) (sym at.0) ∙ r.0))

    module _ (w' : List ℕ) (from : ℕ) where
      abbrev more : List (List Bool)
      more = known ++ S ∷ []

      sets_more : Added tab w w' n u u from → Sets count arcs tab w' (n + 1) more
      sets_more d = record { many = length-append known (S ∷ []) ∙ omega (arith, h.many); each = λ j R g. go j R g (snoc_at_cases known S j g) }
        where
          go : (j : ℕ) (R : List Bool) → get_elem? more j ≡ some R → (get_elem? known j ≡ some R) ⊎ ((length known ≤ j) × (R ≡ S)) → Is (left_row tab w' j) R
          go j R g (inl b) = subst (λ (v : List ℕ). Is v R) (sym (d.old j (omega (arith, get_elem?-lt known j b, h.many))).0) (h.each j R b)
          go j R g (inr b) =
              let k : j ≡ n = omega (arith, get_elem?-lt more j g, length-append known (S ∷ []), h.many, b.0) in
              subst (λ (v : List ℕ). Is v R) (sym (ap (left_row tab w') k ∙ d.new.0)) (p.0 ∙ sym b.1, p.1)

      joins : (r : Option ℕ) → Met tab w w' n u u from r → Joined same_set (Sets count arcs tab) w' known S r
      joins = met-joins same_set (Sets count arcs tab) S h h.many lacks-none has-old sets_more

      -- meeting the set is adding it
      set-met : (r : Option ℕ) → Met tab w w' n u u from r → SetsOutcome 512 count arcs tab w' (add same_set known S) r
      set-met None m = joins None m
      set-met (Some k) m = joins (Some k) m

-- THE LAW. The sets of the letters that are met join the list, in their order
pub MetAll-sets : {count : ℕ} {arcs : List PlainArc} {t : SetTable} {w : List ℕ} {n : ℕ} (sets : ℕ → List ℕ) (i : ℕ) (letters w' : List ℕ) (r : Option ℕ) (δ : ℕ → List Bool) (known : List (List Bool))
    → t.sets ≡ 1 → Each (λ l. (view count (sets l) ≡ δ l) × ε_closed_set count arcs (sets l)) letters → Sets count arcs t w n known → MetAll t sets sets i letters w n w' r
    → SetsOutcome 512 count arcs t w' (add_all same_set known (map δ letters)) r
unfolding add_all
MetAll-sets {count} {arcs} {t} {w} {n} sets i letters w' r δ known one each h m =
    met_all same_set δ t sets sets i (λ S v r. SetsOutcome 512 count arcs t v S r) (λ l. (view count (sets l) ≡ δ l) × ε_closed_set count arcs (sets l))
    (λ S l v v' k r p h x. set-met count arcs t one v k (sets l) S (δ l) h p v' (i * 64 + l) r x) (λ S l v o. omega (arith, o, add_all-length same_set S (δ l ∷ [])))
    letters w n w' r known each h m
