-- ThroughRows: one pass over the rows of a table, which takes each of them through a number k.
use mathlib.Core.Path.{◌≡◌, refl, sym, ap, ap₂, ◌∙◌}
use mathlib.Core.Bool.{Bool, true, false, ◌||◌, ◌&&◌, or-false}
use mathlib.Core.List.{List}
use Prim.Native.Nat.{ℕ, ◌+◌, ◌*◌, ◌≤◌, ◌<◌}
use native.Mathlib.Decide.{ℕ_discrete}
use native.Mathlib.Omega.{arith}
use Rattle.word_sets.specs.Sets.{in_set}
use Rattle.word_fields.specs.Frame.{Kept}
use Rattle.word_rows.specs.Rows.{row, related}
use Rattle.word_fields.proofs.Laws.{kept_same, kept_then, kept-wider}
use Rattle.word_rows.proofs.RowLaws.{row_other}
use Rattle.word_rows.proofs.Warshall.{via}

-- the rows below i are what `new` says, those from i on are as they were
pub record Passed (base n i : ℕ) (new : ℕ → ℕ → Bool) (w₀ w : List ℕ) : Type 0 where
  pub few : i ≤ n
  pub kept : Kept base (base + 4 * n) w₀ w
  pub done : (p j : ℕ) → p < i → related w base p j ≡ new p j
  pub rest : (p : ℕ) → i ≤ p → row w base p ≡ row w₀ base p

pub passed_start : (base n : ℕ) (new : ℕ → ℕ → Bool) (w : List ℕ) → Passed base n 0 new w w
passed_start base n new w = record { few = omega arith; kept = kept_same base (base + 4 * n) w; done = λ p j h. absurd (omega arith); rest = λ p h. refl }

-- row i becomes what `new` says, and no other word changes
pub passed-more : {base n i : ℕ} {new : ℕ → ℕ → Bool} {w₀ w w' : List ℕ} → i < n → Passed base n i new w₀ w
    → Kept (base + 4 * i) (base + 4 * i + 4) w w' → ((j : ℕ) → in_set (row w' base i) j ≡ new i j) → Passed base n (i + 1) new w₀ w'
unfolding related
passed-more {base} {n} {i} {new} {w₀} {w} {w'} h c k e = record {
  few = omega arith;
  kept = kept_then c.kept (kept-wider (omega arith) (omega arith) k);
  done = λ p j l. go p j l (ℕ_discrete p i);
  rest = λ p l. row_other base i p k (λ q. omega arith) ∙ c.rest p (omega arith);
}
  where
    go : (p j : ℕ) → p < i + 1 → Dec (p ≡ i) → in_set (row w' base p) j ≡ new p j
    go p j l (yes q) = rw q (e j)
    go p j l (no q) = ap (λ (s : List ℕ). in_set s j) (row_other base i p k q) ∙ c.done p j (omega arith)

-- ---- a turn: row k was `by`
module _ {base n i : ℕ} {w₀ w by : List ℕ} (k : ℕ) (h : i < n) (c : Passed base n i (via (related w₀ base) k) w₀ w) (was : by ≡ row w₀ base k) where
  mine : (j : ℕ) → related w base i j ≡ related w₀ base i j
  unfolding related
  mine j = ap (λ (s : List ℕ). in_set s j) (c.rest i (omega arith))

  -- k is not in row i
  pub through_off : related w base i k ≡ false → Passed base n (i + 1) (via (related w₀ base) k) w₀ w
  unfolding related
  through_off e = passed-more h c (kept_same _ _ w) (λ j.
      mine j ∙ sym (or-false (related w₀ base i j))
      ∙ ap (λ (b : Bool). related w₀ base i j || (b && related w₀ base k j)) (sym e ∙ mine k))

  -- k is in row i, `set`: it becomes the union of both
  pub through_on : {w' set u : List ℕ} → related w base i k ≡ true → set ≡ row w base i → Kept (base + 4 * i) (base + 4 * i + 4) w w' → row w' base i ≡ u
      → ((j : ℕ) → in_set u j ≡ (in_set set j || in_set by j)) → Passed base n (i + 1) (via (related w₀ base) k) w₀ w'
  unfolding related
  through_on e is q r f = passed-more h c q (λ j.
      ap (λ (s : List ℕ). in_set s j) r ∙ f j
      ∙ ap₂ (λ (a : Bool) (s : List ℕ). a || in_set s j) (ap (λ (s : List ℕ). in_set s j) is ∙ mine j) was
      ∙ ap (λ (b : Bool). related w₀ base i j || (b && related w₀ base k j)) (sym e ∙ mine k))
