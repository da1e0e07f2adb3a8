-- ExpandSets: the live sets before a place, expanded one after the other: what those behind it are once the first i are.
use Rattle.std.proofs.Common.{Option, Some, None}
use mathlib.Core.Path.{◌∙◌, ◌≡◌, ap, refl, subst, sym}
use mathlib.Core.Bool.{Bool}
use mathlib.Core.List.{List, [], flat_map, map}
use Prim.Native.Nat.{◌+◌, ◌-◌, ◌<◌, ◌≤◌, ℕ}
use native.Mathlib.Numerals.{add-one}
use native.Mathlib.Omega.{arith}
use lib.ListN.{length, take}
use lib.Seq.{take_all}
use Rattle.automata.specs.Exploration.{add_all}
use Rattle.automata.specs.Lists.{count_from}
use Rattle.automata.specs.LiveSets.{same_set}
use Rattle.automata.proofs.Laws.{get_elem?-lt, get_elem?-some}
use Rattle.fillings.specs.Fillings.{behind_place, from_to, letters_in}
use Rattle.fillings.proofs.Laws.{flat_at, flat_length, place-start}
use Rattle.word_fields.specs.Frame.{Kept}
use Rattle.word_fields.proofs.Laws.{kept_same, kept_then}
use Rattle.word_layout.specs.Layout.{before_table, letter_sets, set_rows, set_table}
use Rattle.live_table.specs.SetRows.{RowChain}
use Rattle.ranges_walk.specs.Walking.{BehindPlace, Chained, LiveAt, SetsIn}
use Rattle.ranges_walk.proofs.WalkFrames.{before-kept, behind_in}

-- the live sets that the letters of the range lead to from one
abbrev pub from_one : (file : List ℕ) (low high : ℕ) → List Bool → List (List Bool)
from_one file low high S = map (behind_in file S) (letters_in (from_to low high))

-- those that they lead to from the first i, each once
abbrev pub from_first : (file : List ℕ) (low high : ℕ) → List (List Bool) → ℕ → List (List Bool)
from_first file low high sets i = add_all same_set [] (flat_map (from_one file low high) (take i sets))

-- of the n live sets before the place the first i are expanded: m stand behind it
pub record Expanded (file : List ℕ) (low high n : ℕ) (w₀ w : List ℕ) (m i : ℕ) : Type 0 where
  pub inside : i ≤ n
  pub kept : Kept set_rows (letter_sets + 256) w₀ w
  pub chained : Chained w (Some m)
  pub sets : (sets : List (List Bool)) → SetsIn file before_table w₀ n sets → SetsIn file set_table w m (from_first file low high sets i)

module _ (file : List ℕ) (low high n : ℕ) where
  pub Expanded-start : {w : List ℕ} → RowChain set_table w 0 → Expanded file low high n w w 0 0
  unfolding add_all flat_map
  Expanded-start {w} chain = record {
    inside = omega arith;
    kept = kept_same _ _ w;
    chained = (omega arith, chain);
    sets = λ sets h. record { many = refl; each = λ i S e. absurd (omega (arith, get_elem?-lt {A = List Bool} [] i e)) };
  }

  module _ (few : n ≤ 512) {w₀ w w' : List ℕ} {m i : ℕ} (r : Option ℕ) (l : i < n) (x : Expanded file low high n w₀ w m i) (k : Kept set_rows (letter_sets + 256) w w') (g : Chained w' r)
      (f : (S : List Bool) (sets : List (List Bool)) → LiveAt file w i S → SetsIn file set_table w m sets → BehindPlace file w' (add_all same_set sets (map (behind_in file S) (count_from low (high + 1 - low)))) r) where
    turn : (sets : List (List Bool)) → SetsIn file before_table w₀ n sets → BehindPlace file w' (from_first file low high sets (i + 1)) r
    turn sets h =
        let e = get_elem?-some sets i (omega (arith, h.many)) in
        let b = before-kept file few (omega arith) x.kept h in
        let z : from_first file low high sets (i + 1) ≡ add_all same_set (from_first file low high sets i) (map (behind_in file e.0) (count_from low (high + 1 - low))) =
        rw (add-one i, add-one high) (sym (flat_at same_set (from_one file low high) sets i e.1)) in
        subst (λ (known : List (List Bool)). BehindPlace file w' known r) (sym z) (f e.0 (from_first file low high sets i) (b.each i e.0 e.1) (x.sets sets h))

    pub Expanded-more : {more : ℕ} → r ≡ Some more → Expanded file low high n w₀ w' more (i + 1)
    Expanded-more {more} e = record {
      inside = omega arith;
      kept = kept_then x.kept k;
      chained = subst (λ (r : Option ℕ). Chained w' r) e g;
      sets = λ sets h. subst (λ (r : Option ℕ). BehindPlace file w' (from_first file low high sets (i + 1)) r) e (turn sets h);
    }

    pub Expanded-over : r ≡ None → (sets : List (List Bool)) → SetsIn file before_table w₀ n sets → 512 < length (behind_place same_set (behind_in file) sets (from_to low high))
    Expanded-over e sets h =
        let o = subst (λ (r : Option ℕ). BehindPlace file w' (from_first file low high sets (i + 1)) r) e (turn sets h) in
        omega (arith, o, flat_length same_set (from_one file low high) sets (i + 1), ap length (place-start same_set (behind_in file) sets (from_to low high)))

  pub Expanded-end : {w₀ w : List ℕ} {m i : ℕ} → n ≤ i → Expanded file low high n w₀ w m i → (sets : List (List Bool)) → SetsIn file before_table w₀ n sets
      → SetsIn file set_table w m (behind_place same_set (behind_in file) sets (from_to low high))
  Expanded-end {w₀} {w} {m} {i} l x sets h =
      subst (λ (known : List (List Bool)). SetsIn file set_table w m known)
      (ap (λ (s : List (List Bool)). add_all same_set [] (flat_map (from_one file low high) s)) (take_all i sets (omega (arith, h.many))) ∙ sym (place-start same_set (behind_in file) sets (from_to low high))) (x.sets sets h)
