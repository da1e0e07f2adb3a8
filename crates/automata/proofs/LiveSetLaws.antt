-- LiveSetLaws: the live sets that the walk meets are those of words; their number is exact, and refusal 23 of one automaton says what it
-- should (specs/LiveSets.antt).
use mathlib.Core.Path.{◌∙◌, ◌≡◌, ap, refl, sym}
use mathlib.Core.Logic.{◌↔◌}
use Prim.Native.Nat.{◌<◌, ◌≤◌, ℕ}
use lib.Dec.{T}
use lib.ListN.{length}
use mathlib.Core.Bool.{Bool, beq}
use mathlib.Core.List.{List, [], ◌++◌, ◌∷◌}
use native.Mathlib.Decide.{dec_lt}
use native.Mathlib.Omega.{arith}
use Rattle.automata.specs.Automaton.{Accepts, Automaton, letters}
use Rattle.automata.specs.Counting.{Exactly, MoreThan}
use Rattle.automata.specs.Live.{live, live_from}
use Rattle.automata.specs.LiveSets.{SetAfter, accepts_set, behind, live_sets, same_set}
use Rattle.automata.specs.Search.{leads}
use Rattle.automata.specs.Unfolding.{accepted, configurations, live_set, plain_arcs}
use Rattle.automata.proofs.CountingLaws.{counts_same, more_same, not_more}
use Rattle.automata.proofs.ListLaws.{beq-iff, same_by-iff}
use Rattle.automata.proofs.SearchLaws.{Led, met-counts, met-more}
use Rattle.automata.proofs.UnfoldingLaws.{accepted-iff}

pub same_set-iff : (S R : List Bool) → T (same_set S R) ↔ (S ≡ R)
unfolding same_set
same_set-iff S R = same_by-iff beq beq-iff S R

leads-append : {Q : Type 0} (δ : Q → ℕ → Q) (q : Q) (v w : List ℕ) → leads δ (leads δ q v) w ≡ leads δ q (v ++ w)
unfolding leads
leads-append δ q [] w = refl
leads-append δ q (l ∷ v) w = leads-append δ (δ q l) v w

module _ (x : Automaton) (L : ℕ) where
  leads-from : (S : List Bool) (w : List ℕ) → leads (behind x L) S w ≡ live_from (length (configurations x L)) (plain_arcs x L) S w
  unfolding leads live_from behind
  leads-from S [] = refl
  leads-from S (l ∷ w) = leads-from (behind x L S l) w

  -- from the live set of the empty word a word leads to its own
  pub from_start : (v : List ℕ) → leads (behind x L) (live_set x L []) v ≡ live_set x L v
  unfolding live_set live
  from_start v = leads-from (live_set x L []) v

  -- the live set of a word is where the rest leads from that of its beginning
  leads-behind : (v w : List ℕ) → leads (behind x L) (live_set x L v) w ≡ live_set x L (v ++ w)
  leads-behind v w = ap (λ (S : List Bool). leads (behind x L) S w) (sym (from_start v)) ∙ leads-append (behind x L) (live_set x L []) v w ∙ from_start (v ++ w)

  -- the set that a word leads to is accepted just if the word is
  pub Led-accepts : length (configurations x L) ≤ L → (v w : List ℕ) → T (accepts_set x L (leads (behind x L) (live_set x L v) w)) ↔ Accepts x (v ++ w)
  unfolding accepts_set accepted
  Led-accepts fits v w = rw (leads-behind v w) (accepted-iff x L fits (v ++ w))

  module _ (v : List ℕ) where
    Led-after : (R : List Bool) → Led same_set same_set-iff (behind x L) (letters x) (live_set x L v) R ↔ SetAfter x L v R
    Led-after R = (
      λ l. record { word = l.word; over = l.over; is = sym (leads-behind v l.word) ∙ l.leads_there },
      λ s. record { word = s.word; over = s.over; leads_there = leads-behind v s.word ∙ s.is },
    )

    -- within the limit the walk meets each live set of a word once
    sets-count : (P : ℕ) → length (live_sets x L (live_set x L v) P) ≤ P → Exactly (SetAfter x L v) (length (live_sets x L (live_set x L v) P))
    unfolding live_sets
    sets-count P h = counts_same Led-after (met-counts same_set same_set-iff (behind x L) (letters x) (live_set x L v) P h)

    -- refusal 23: the walk goes beyond the limit just if there are more sets
    pub sets_more : (P : ℕ) → (P < length (live_sets x L (live_set x L v) P)) ↔ MoreThan (SetAfter x L v) P
    unfolding live_sets
    sets_more P = (
      λ h. more_same Led-after (met-more same_set same_set-iff (behind x L) (letters x) (live_set x L v) P h),
      λ m. go m (dec_lt P (length (live_sets x L (live_set x L v) P))),
    )
      where
        go : MoreThan (SetAfter x L v) P → Dec (P < length (live_sets x L (live_set x L v) P)) → P < length (live_sets x L (live_set x L v) P)
        go m (yes h) = h
        go m (no h) = absurd (not_more (sets-count P (omega arith)) (omega arith) m)
