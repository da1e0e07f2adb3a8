-- SetTests: the live sets behind the last place stand in rows; whether one of them is accepted, or is not, is told by a test of each row.
use mathlib.Core.Path.{◌∙◌, ◌≡◌, ap, ap₂, refl, subst, sym}
use mathlib.Core.Logic.{◌↔◌}
use mathlib.Core.Bool.{Bool, beq, false, not, true}
use mathlib.Core.List.{List, Memᴰ, [], ◌∷◌}
use Prim.Native.Nat.{◌+◌, ◌<◌, ℕ}
use native.Mathlib.Decide.{ℕ_discrete}
use native.Mathlib.Omega.{arith}
use lib.Dec.{T}
use Rattle.automata.specs.Lists.{any}
use Rattle.automata.specs.Live.{PlainArc, meets}
use Rattle.automata.proofs.Laws.{any-iff, at_mem, Bool-ext, get_elem?-lt, get_elem?-some, mem_at}
use Rattle.ranges_promise.specs.RangeAnswers.{judged}
use Rattle.word_sets.specs.Sets.{Within, in_set, view}
use Rattle.word_sets.proofs.Laws.{meets-view}
use Rattle.word_rows.specs.Rows.{row}
use Rattle.word_layout.specs.Layout.{before_table}
use Rattle.live_table.specs.SetRows.{left_row}
use Rattle.live_search.specs.Exploring.{Sets}

-- is the set accepted, or where `accepted` is false, not accepted?
abbrev pub asked : (count : ℕ) (finals : List ℕ) (accepted : Bool) → List Bool → Bool
asked count finals accepted S = beq (meets S (view count finals)) accepted

-- none of the first i rows is so, whatever numbers its members are below
abbrev pub NoneAsked : (w finals : List ℕ) (accepted : Bool) (i : ℕ) → Type 0
NoneAsked w finals accepted i = (count j : ℕ) → j < i → Within count (left_row before_table w j) → asked count finals accepted (view count (left_row before_table w j)) ≡ false

module _ (w finals : List ℕ) (accepted : Bool) where
  -- nor is the next
  pub none_more : {i : ℕ} → NoneAsked w finals accepted i → ((count : ℕ) → Within count (left_row before_table w i) → asked count finals accepted (view count (left_row before_table w i)) ≡ false) → NoneAsked w finals accepted (i + 1)
  none_more {i} before this count j l v = go (ℕ_discrete j i)
    where
      go : Dec (j ≡ i) → asked count finals accepted (view count (left_row before_table w j)) ≡ false
      go (yes e) = subst (λ (k : ℕ). Within count (left_row before_table w k) → asked count finals accepted (view count (left_row before_table w k)) ≡ false) (sym e) (this count) v
      go (no d) = before count j (omega arith) v

  -- row i is u, and r tells whether it has a final member
  module _ (i : ℕ) {u : List ℕ} (r : Bool) (is : u ≡ row w 0 i) (tells : T r ↔ ((j : ℕ) × T (in_set u j) × T (in_set finals j))) where
    pub row-asked : (count : ℕ) → Within count (left_row before_table w i) → beq r accepted ≡ asked count finals accepted (view count (left_row before_table w i))
    row-asked count v =
        let e : u ≡ left_row before_table w i = is ∙ ap (row w 0) (omega arith) in
        let met : r ≡ meets (view count u) (view count finals) = meets-view u finals (subst (Within count) (sym e) v) tells in
        ap (λ (b : Bool). beq b accepted) (met ∙ ap (λ (s : List ℕ). meets (view count s) (view count finals)) e)

    pub one-asked : (count : ℕ) {arcs : List PlainArc} {n : ℕ} {sets : List (List Bool)} → Sets count arcs before_table w n sets → i < n → beq r accepted ≡ true → true ≡ any (asked count finals accepted) sets
    one-asked count {sets = sets} h l told =
        let s = get_elem?-some sets i (omega (arith, h.many)) in
        let f = h.each i s.0 s.1 in
        let passes : asked count finals accepted s.0 ≡ true = ap (asked count finals accepted) (sym f.0) ∙ sym (row-asked count f.1.0) ∙ told in
        Bool-ext true (any (asked count finals accepted) sets) (λ t. (any-iff (asked count finals accepted) sets).1 (s.0, at_mem sets i s.1, rw passes tt)) (λ t. tt)

  -- none of all rows is
  pub none-asked : (count : ℕ) {arcs : List PlainArc} {n : ℕ} {sets : List (List Bool)} → Sets count arcs before_table w n sets → NoneAsked w finals accepted n → false ≡ any (asked count finals accepted) sets
  none-asked count {sets = sets} h none = Bool-ext false (any (asked count finals accepted) sets) (λ t. absurd t) (λ t. never ((any-iff (asked count finals accepted) sets).0 t))
    where
      never : (S : List Bool) × Memᴰ S sets × T (asked count finals accepted S) → ⊥
      never p =
          let m = mem_at p.1 in
          let f = h.each m.0 p.0 m.1 in
          let fails = ap (asked count finals accepted) (sym f.0) ∙ none count m.0 (omega (arith, h.many, get_elem?-lt sets m.0 m.1)) f.1.0 in
          subst T fails p.2

-- ---- the two questions
any_same : (p q : List Bool → Bool) → ((S : List Bool) → p S ≡ q S) → (sets : List (List Bool)) → any p sets ≡ any q sets
unfolding any
any_same p q e [] = refl
any_same p q e (S ∷ sets) = rw (e S, any_same p q e sets)

accepted-is : (b : Bool) → beq b true ≡ b
accepted-is true = refl
accepted-is false = refl

rejected-is : (b : Bool) → beq b false ≡ not b
rejected-is true = refl
rejected-is false = refl

-- the answer, by what the two tell
pub judged-by : (count : ℕ) (finals : List ℕ) (sets : List (List Bool)) {accepted rejected : Bool} → accepted ≡ any (asked count finals true) sets → rejected ≡ any (asked count finals false) sets
    → judged accepted rejected ≡ judged (any (λ S. meets S (view count finals)) sets) (any (λ S. not (meets S (view count finals))) sets)
judged-by count finals sets e f =
    ap₂ judged
    (e ∙ any_same (asked count finals true) (λ S. meets S (view count finals)) (λ S. accepted-is (meets S (view count finals))) sets)
    (f ∙ any_same (asked count finals false) (λ S. not (meets S (view count finals))) (λ S. rejected-is (meets S (view count finals))) sets)
