-- FieldLists: the first fields from a place on as a list, and the rows of a table: how they grow and what keeps them.
use mathlib.Core.Path.{◌∙◌, ◌≡◌, ap, ap₂, refl}
use Prim.Native.Nat.{◌*◌, ◌+◌, ◌/◌, ◌<◌, ◌≤◌, suc, zero, ℕ}
use borrow.Author.Tests.{eq-eqb, ne_eqb}
use lib.Dec.{eqb}
use lib.ListN.{get_or, length}
use mathlib.Core.Bool.{◌&&◌, ◌||◌, false, or-false}
use mathlib.Core.List.{List, [], ◌++◌, ◌∷◌, map}
use native.Mathlib.Decide.{ℕ_discrete}
use native.Mathlib.Nat.{add-suc, add-zero, suc-add, zero-add}
use native.Mathlib.Omega.{arith}
use Rattle.automata.specs.Lists.{count_from}
use Rattle.table_configurations.specs.Tables.{fields_of}
use Rattle.word_fields.specs.Fields.{field}
use Rattle.word_fields.specs.Frame.{Kept}
use Rattle.word_rows.specs.Rows.{related, row}
use Rattle.word_sets.specs.Sets.{in_set}
use Rattle.word_fields.proofs.Laws.{field-same}
use Rattle.word_rows.proofs.Laws.{row_other, row_same}

module _ (f : ℕ → ℕ) where
  count-snoc : (i n : ℕ) → map f (count_from i (suc n)) ≡ map f (count_from i n) ++ f (i + n) ∷ []
  unfolding count_from
  count-snoc i zero = rw (add-zero i)
  count-snoc i (suc n) = ap (λ (l : List ℕ). f i ∷ l) (count-snoc (suc i) n ∙ rw (suc-add i n, add-suc i n))

  count-ext : (g : ℕ → ℕ) (i n : ℕ) → ((j : ℕ) → i ≤ j → j < i + n → f j ≡ g j) → map f (count_from i n) ≡ map g (count_from i n)
  unfolding count_from
  count-ext g i zero h = refl
  count-ext g i (suc n) h = ap₂ (λ (x : ℕ) (l : List ℕ). x ∷ l) (h i (omega arith) (omega arith)) (count-ext g (suc i) n (λ j k l. h j (omega arith) (omega arith)))

pub fields_snoc : (w : List ℕ) (at n : ℕ) → fields_of w at (suc n) ≡ fields_of w at n ++ field w at n ∷ []
unfolding fields_of
fields_snoc w at n = count-snoc (field w at) 0 n ∙ rw (zero-add n)

pub fields-ext : (w w'' : List ℕ) (at n : ℕ) → ((j : ℕ) → j < n → field w'' at j ≡ field w at j) → fields_of w'' at n ≡ fields_of w at n
unfolding fields_of
fields-ext w w'' at n h = count-ext (field w'' at) (field w at) 0 n (λ j k l. h j (omega arith))

-- the words that hold them are as they were
pub fields-kept : (w w'' : List ℕ) (at n : ℕ) → ((j : ℕ) → at ≤ j → 4 * j < 4 * at + n → get_or w'' j 0 ≡ get_or w j 0) → fields_of w'' at n ≡ fields_of w at n
fields-kept w w'' at n h = fields-ext w w'' at n (λ j l. field-same w w'' at j (h (at + j / 4) (omega arith) (omega arith)))

pub related-kept : (w w'' : List ℕ) (base i : ℕ) → length w'' ≡ length w → ((j : ℕ) → base + 4 * i ≤ j → j < base + 4 * i + 4 → get_or w'' j 0 ≡ get_or w j 0)
    → (j : ℕ) → related w'' base i j ≡ related w base i j
unfolding related
related-kept w w'' base i e h j = ap (λ (s : List ℕ). in_set s j) (row_same w w'' base i e (λ q l. h (base + 4 * i + q) (omega arith) (omega arith)))

-- row i is the empty set with k
pub row-alone : (w : List ℕ) (base i k : ℕ) {s : List ℕ} (e : List ℕ) → row w base i ≡ s → ((j : ℕ) → in_set e j ≡ false) → ((j : ℕ) → in_set s j ≡ (eqb j k || in_set e j)) → (j : ℕ) → related w base i j ≡ eqb j k
unfolding related
row-alone w base i k e r n h j = rw r (h j ∙ rw (n j) (or-false (eqb j k)))

-- row c gains t
pub row-joined : {w w'' : List ℕ} (base c t : ℕ) {s : List ℕ} → Kept (base + 4 * c) (base + 4 * c + 4) w w'' → row w'' base c ≡ s → ((j : ℕ) → in_set s j ≡ (eqb j t || in_set (row w base c) j))
    → (i j : ℕ) → related w'' base i j ≡ ((eqb i c && eqb j t) || related w base i j)
unfolding related
row-joined {w} {w''} base c t {s} k e h i j = go (ℕ_discrete i c)
  where
    go : Dec (i ≡ c) → in_set (row w'' base i) j ≡ ((eqb i c && eqb j t) || in_set (row w base i) j)
    go (yes p) = rw (p, e, eq-eqb c c refl) (h j)
    go (no n) = rw (ne_eqb i c n, row_other base c i k n)
