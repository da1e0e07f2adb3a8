-- CountedLists: lists made of the numbers from one on, as loops meet them.
use mathlib.Core.Path.{◌∙◌, ◌≡◌, ap, refl, sym}
use mathlib.Core.Bool.{Bool}
use mathlib.Core.List.{List, [], ◌++◌, ◌∷◌, flat_map, map}
use Prim.Native.Nat.{◌+◌, ◌-◌, ◌<◌, ◌≤◌, suc, zero, ℕ}
use native.Mathlib.Numerals.{add-one}
use Rattle.automata.specs.Lists.{count_from}
use Rattle.automata.specs.Live.{table}
use Rattle.file_fields.proofs.Laws.{down, none_left}

module _ {A : Type 0} (f : ℕ → A) where
  -- one step, and the end
  pub counted_next : (i n : ℕ) → i < n → map f (count_from i (n - i)) ≡ f i ∷ map f (count_from (i + 1) (n - (i + 1)))
  unfolding count_from
  counted_next i n h = rw (down n i h, add-one i)

  pub counted_none : (i n : ℕ) → n ≤ i → map f (count_from i (n - i)) ≡ []
  unfolding count_from
  counted_none i n h = rw (none_left n i h)

  counted-later : (i k : ℕ) → map f (count_from (suc i) k) ≡ map (λ j. f (suc j)) (count_from i k)
  unfolding count_from
  counted-later i zero = refl
  counted-later i (suc k) = ap (λ (l : List A). f (suc i) ∷ l) (counted-later (suc i) k)

-- the tests of the numbers below k
pub table_counted : (k : ℕ) (f : ℕ → Bool) → table k f ≡ map f (count_from 0 k)
unfolding table count_from
table_counted zero f = refl
table_counted (suc k) f = ap (λ (l : List Bool). f 0 ∷ l) (table_counted k (λ i. f (suc i)) ∙ sym (counted-later f 0 k))

-- lists one behind the other
module _ {A : Type 0} (f : ℕ → List A) where
  pub joined-next : (i n : ℕ) → i < n → flat_map f (count_from i (n - i)) ≡ f i ++ flat_map f (count_from (i + 1) (n - (i + 1)))
  unfolding count_from flat_map
  joined-next i n h = rw (down n i h, add-one i)

  pub joined-none : (i n : ℕ) → n ≤ i → flat_map f (count_from i (n - i)) ≡ []
  unfolding count_from flat_map
  joined-none i n h = rw (none_left n i h)
