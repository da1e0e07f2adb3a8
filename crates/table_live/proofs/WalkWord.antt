-- WalkWord: the live set of a word of bytes, one byte after the other, whatever takes the steps.
use mathlib.Core.Path.{◌∙◌, ◌≡◌, ap, ap₂, refl, subst, sym}
use mathlib.Core.Bool.{Bool, ◌&&◌, ◌||◌, false, true}
use mathlib.Core.List.{List, [], ◌∷◌}
use mathlib.Core.Option.{Option, map, none, some}
use Prim.Native.Nat.{◌+◌, ◌<◌, ◌≤◌, suc, zero, ℕ}
use native.Mathlib.Numerals.{add-one}
use lib.Dec.{T}
use lib.ListN.{drop, drop_of_length-le, get_or, length}
use lib.Seq.{drop-cons}
use Rattle.automata.specs.Live.{PlainArc, by_letter, epsilon_closure, hit, in?, live_from, once, rounds, step, table}
use Rattle.automata.specs.Lists.{any}
use Rattle.automata.specs.Unfolding.{spelled_or}
use Rattle.automata.specs.Words.{letter_with, spelling}
use Rattle.automata.proofs.Laws.{Bool-ext}
use Rattle.word_sets.specs.Sets.{ε_closed_set, in_set, view}
use Rattle.word_sets.proofs.Laws.{empty-set, In-view, table-ext}
use Rattle.table_live.specs.Steps.{live_bytes}

-- the set of `count` configurations that has none of them
abbrev nothing : ℕ → List Bool
nothing count = table count (λ _. false)

-- ---- where nothing is live, nothing is live behind any word
In-nothing : (count j : ℕ) → in? (nothing count) j ≡ false
unfolding table
In-nothing zero j = refl
In-nothing (suc count) zero = refl
In-nothing (suc count) (suc j) = In-nothing count j

module _ (arcs : List PlainArc) (count : ℕ) where
  hit-nothing : (α : Option ℕ) (j : ℕ) → hit arcs α (nothing count) j ≡ false
  unfolding hit any
  hit-nothing α j = go arcs
    where
      never : (x y : Bool) → (x && y && false) ≡ false
      never true true = refl
      never true false = refl
      never false y = refl

      go : (l : List PlainArc) → hit l α (nothing count) j ≡ false
      go [] = refl
      go (a ∷ l) = rw (In-nothing count a.source, never, go l)

  rounds-nothing : (n : ℕ) → rounds count arcs n (nothing count) ≡ nothing count
  unfolding rounds once
  rounds-nothing zero = refl
  rounds-nothing (suc n) = rw (rounds-nothing n) (table-ext count (λ j h. ap₂ (λ (x y : Bool). x || y) (In-nothing count j) (hit-nothing none j)))

  by_nothing : (l : ℕ) → by_letter count arcs (nothing count) l ≡ nothing count
  unfolding by_letter epsilon_closure step
  by_nothing l = ap (rounds count arcs count) (table-ext count (λ j h. hit-nothing (some l) j)) ∙ rounds-nothing count

  from_nothing : (v : List ℕ) → live_from count arcs (nothing count) v ≡ nothing count
  unfolding live_from
  from_nothing [] = refl
  from_nothing (l ∷ v) = ap (λ (S : List Bool). live_from count arcs S v) (by_nothing l) ∙ from_nothing v

  live-nothing : (alphabet s : List ℕ) → live_bytes alphabet arcs count (nothing count) s ≡ nothing count
  unfolding live_bytes
  live-nothing alphabet s = go (spelling alphabet s)
    where
      go : (o : Option (List ℕ)) → spelled_or (nothing count) (live_from count arcs (nothing count)) o ≡ nothing count
      go none = refl
      go (some v) = from_nothing v

-- ---- the live set of a word of bytes
module _ (alphabet : List ℕ) (arcs : List PlainArc) (count : ℕ) where
  live_end : (S : List Bool) → live_bytes alphabet arcs count S [] ≡ S
  unfolding live_bytes spelling live_from
  live_end S = refl

  -- a byte that is a letter is a step, and then the rest of the word
  live-letter : (S : List Bool) (b l : ℕ) (s : List ℕ) → letter_with alphabet b ≡ some l → live_bytes alphabet arcs count S (b ∷ s) ≡ live_bytes alphabet arcs count (by_letter count arcs S l) s
  unfolding live_bytes spelling live_from
  live-letter S b l s e = rw e (go (spelling alphabet s))
    where
      go : (o : Option (List ℕ)) → spelled_or (nothing count) (live_from count arcs S) (map (λ w. l ∷ w) o) ≡ spelled_or (nothing count) (live_from count arcs (by_letter count arcs S l)) o
      go none = refl
      go (some v) = refl

  -- a byte that is no letter leaves nothing live
  live-foreign : (S : List Bool) (b : ℕ) (s : List ℕ) → letter_with alphabet b ≡ none → live_bytes alphabet arcs count S (b ∷ s) ≡ nothing count
  unfolding live_bytes spelling
  live-foreign S b s e = rw e

-- a set with no member, which no empty move leaves
empty-view : (count : ℕ) (set : List ℕ) → ((j : ℕ) → ¬ T (in_set set j)) → view count set ≡ nothing count
unfolding view
empty-view count set nobody = table-ext count (λ j h. Bool-ext (in_set set j) false (λ t. absurd (nobody j t)) (λ t. absurd t))

abbrev zeros : List ℕ
zeros = 0 ∷ 0 ∷ 0 ∷ 0 ∷ []

zeros-closed : (count : ℕ) (arcs : List PlainArc) → (view count zeros ≡ nothing count) × ε_closed_set count arcs zeros
zeros-closed count arcs = (empty-view count zeros nobody, (λ j t. absurd (nobody j t), λ i j t m. absurd (nobody i ((In-view count zeros i).0 t).1)))
  where
    nobody : (j : ℕ) → ¬ T (in_set zeros j)
    nobody j t = subst T (empty-set j) t

-- ---- a walk: what is left of the word leads from `set` where the whole word leads from set₀
pub record Walking (alphabet : List ℕ) (arcs : List PlainArc) (count : ℕ) (word set₀ set : List ℕ) (i : ℕ) : Type 0 where
  pub live : live_bytes alphabet arcs count (view count set₀) word ≡ live_bytes alphabet arcs count (view count set) (drop i word)
  pub closed : ε_closed_set count arcs set

-- `set` is the live set of the word, from set₀ on
abbrev pub Walked : (alphabet : List ℕ) (arcs : List PlainArc) (count : ℕ) (word set₀ set : List ℕ) → Type 0
Walked alphabet arcs count word set₀ set = (view count set ≡ live_bytes alphabet arcs count (view count set₀) word) × ε_closed_set count arcs set

pub walking_start : {alphabet : List ℕ} {arcs : List PlainArc} {count : ℕ} {word set : List ℕ} → ε_closed_set count arcs set → Walking alphabet arcs count word set set 0
walking_start closed = record { live = refl; closed = closed }

module _ {alphabet : List ℕ} {arcs : List PlainArc} {count : ℕ} {word set₀ set : List ℕ} {i : ℕ} (v : Walking alphabet arcs count word set₀ set i) where
  rest : i < length word → drop i word ≡ get_or word i 0 ∷ drop (i + 1) word
  rest h = rw (add-one i) (drop-cons word i 0 h)

  -- a step by a letter
  pub walking-more : {next : List ℕ} {l : ℕ} → i < length word → letter_with alphabet (get_or word i 0) ≡ some l → (view count next ≡ by_letter count arcs (view count set) l) × ε_closed_set count arcs next
      → Walking alphabet arcs count word set₀ next (i + 1)
  walking-more {l = l} h e q = record {
    live = v.live ∙ rw (rest h) (live-letter alphabet arcs count (view count set) (get_or word i 0) l (drop (i + 1) word) e) ∙ ap (λ (S : List Bool). live_bytes alphabet arcs count S (drop (i + 1) word)) (sym q.0);
    closed = q.1;
  }

  -- a byte that is no letter
  pub walking-foreign : i < length word → letter_with alphabet (get_or word i 0) ≡ none → Walked alphabet arcs count word set₀ (0 ∷ 0 ∷ 0 ∷ 0 ∷ [])
  walking-foreign h e =
      let z = zeros-closed count arcs in
      (z.0 ∙ sym (v.live ∙ rw (rest h) (live-foreign alphabet arcs count (view count set) (get_or word i 0) (drop (i + 1) word) e)), z.1)

  -- nothing is live any more, whatever is left of the word
  pub walking-nothing : ((j : ℕ) → ¬ T (in_set set j)) → Walked alphabet arcs count word set₀ (0 ∷ 0 ∷ 0 ∷ 0 ∷ [])
  walking-nothing nobody =
      let z = zeros-closed count arcs in
      (z.0 ∙ sym (v.live ∙ ap (λ (S : List Bool). live_bytes alphabet arcs count S (drop i word)) (empty-view count set nobody) ∙ live-nothing arcs count alphabet (drop i word)), z.1)

  -- the end of the word
  pub walking-end : length word ≤ i → Walked alphabet arcs count word set₀ set
  walking-end h = (sym (v.live ∙ rw (drop_of_length-le word h) (live_end alphabet arcs count (view count set))), v.closed)
