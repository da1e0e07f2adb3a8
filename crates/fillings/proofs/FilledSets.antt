-- FilledSets: the live sets behind the places are those of fillings. So a test of the sets is one of the fillings, and refusal 23 says what it
-- should.
use mathlib.Core.Path.{◌∙◌, refl, subst, sym}
use mathlib.Core.Logic.{◌↔◌}
use mathlib.Core.Bool.{Bool, not}
use mathlib.Core.List.{List, [], ◌∷◌}
use Prim.Native.Nat.{◌<◌, ◌≤◌, ℕ}
use native.Mathlib.Decide.{dec_lt}
use native.Mathlib.Omega.{arith}
use lib.Dec.{T}
use lib.ListN.{length}
use Rattle.automata.specs.Automaton.{Accepts, Automaton}
use Rattle.automata.specs.Counting.{Exactly, MoreThan}
use Rattle.automata.specs.Lists.{any}
use Rattle.automata.specs.LiveSets.{accepts_set, behind, same_set}
use Rattle.automata.specs.Unfolding.{configurations, live_set}
use Rattle.automata.proofs.Laws.{any-iff, counts_same, from_start, iff-trans, Led-accepts, not_iff, not_more, same_set-iff}
use Rattle.fillings.specs.Fillings.{FilledSet, Fills, ManyFilled, Range, behind_places, many_behind}
use Rattle.fillings.proofs.FillingLaws.{Led, Filled-counts, Filled-iff, many-iff}

-- of exactly m things there are more than n just if m is more
more-iff : {A : Type 0} {P : A → Type 0} {m n : ℕ} → Exactly P m → (n < m) ↔ MoreThan P n
more-iff {A} {P} {m} {n} c = (λ h. record { list = c.list; apart = c.apart; each = λ x. (c.each x).0; many = omega (arith, c.many) }, λ d. go d (dec_lt n m))
  where
    go : MoreThan P n → Dec (n < m) → n < m
    go d (yes h) = h
    go d (no h) = absurd (not_more c (omega arith) d)

module _ (x : Automaton) (L : ℕ) where
  -- the live sets behind all places, from that of the empty word
  abbrev sets : List Range → List (List Bool)
  sets rs = behind_places same_set (behind x L) (live_set x L [] ∷ []) rs

  Led-filled : (rs : List Range) (S : List Bool) → Led (behind x L) (live_set x L []) rs S ↔ FilledSet x L rs S
  Led-filled rs S = (
    λ t. record { word = t.word; fills = t.fills; is = sym (from_start x L t.word) ∙ t.is },
    λ t. record { word = t.word; fills = t.fills; is = from_start x L t.word ∙ t.is },
  )

  -- ---- refusal 23
  sets-count : (rs : List Range) → Exactly (FilledSet x L rs) (length (sets rs))
  sets-count rs = counts_same (Led-filled rs) (Filled-counts same_set same_set-iff (behind x L) (live_set x L []) rs)

  -- With no place there is one live set: at most P.
  pub filling_many : (P : ℕ) (rs : List Range) → 1 ≤ P → T (many_behind same_set (behind x L) P (live_set x L [] ∷ []) rs) ↔ ManyFilled x L P rs
  filling_many P rs h = iff-trans (many-iff same_set (behind x L) P (live_set x L [] ∷ []) rs h) (
    λ f. record { front = f.front; rest = f.rest; split = f.split; many = (more-iff (sets-count f.front)).0 f.long },
    λ f. record { front = f.front; rest = f.rest; split = f.split; long = (more-iff (sets-count f.front)).1 f.many },
  )

  -- ---- which fillings are accepted
  -- what a test of a word's live set decides of the word holds of a filling just if one of the sets behind all places passes the test
  filling_iff : (test : List Bool → Bool) (P : List ℕ → Type 0) → ((w : List ℕ) → T (test (live_set x L w)) ↔ P w) → (rs : List Range) → T (any test (sets rs)) ↔ ((w : List ℕ) × Fills rs w × P w)
  filling_iff test P decides rs = iff-trans (any-iff test (sets rs)) (
    λ s. let f = (Led-filled rs s.0).0 ((Filled-iff same_set same_set-iff (behind x L) (live_set x L []) rs s.0).0 s.1) in
        (f.word, f.fills, (decides f.word).0 (subst (λ (S : List Bool). T (test S)) (sym f.is) s.2)),
    λ f. let S = live_set x L f.0 in
        (S, (Filled-iff same_set same_set-iff (behind x L) (live_set x L []) rs S).1 ((Led-filled rs S).1 (record { word = f.0; fills = f.1; is = refl })), (decides f.0).1 f.2),
  )

  module _ (fits : length (configurations x L) ≤ L) where
    -- the live set of a word is accepted just if the word is
    pub set-accepts : (w : List ℕ) → T (accepts_set x L (live_set x L w)) ↔ Accepts x w
    set-accepts w = subst (λ (S : List Bool). T (accepts_set x L S) ↔ Accepts x w) (from_start x L w) (Led-accepts x L fits [] w)

    set-rejects : (w : List ℕ) → T (not (accepts_set x L (live_set x L w))) ↔ (¬ Accepts x w)
    set-rejects w = iff-trans (not_iff (accepts_set x L (live_set x L w))) (λ n a. n ((set-accepts w).1 a), λ n t. n ((set-accepts w).0 t))

    pub filling_accepted : (rs : List Range) → T (any (accepts_set x L) (sets rs)) ↔ ((w : List ℕ) × Fills rs w × Accepts x w)
    filling_accepted = filling_iff (accepts_set x L) (Accepts x) set-accepts

    pub filling_rejected : (rs : List Range) → T (any (λ S. not (accepts_set x L S)) (sets rs)) ↔ ((w : List ℕ) × Fills rs w × (¬ Accepts x w))
    filling_rejected = filling_iff (λ S. not (accepts_set x L S)) (λ w. ¬ Accepts x w) set-rejects
