-- Numbering: the sets of the letters are looked up one after the other, and their numbers put into fields that are none of the table's.
use mathlib.Core.Path.{◌∙◌, ◌≡◌, ap, refl, subst, sym}
use mathlib.Core.Logic.{inl}
use mathlib.Core.Bool.{cond, not}
use mathlib.Core.List.{List, [], ◌∷◌}
use Prim.Native.Nat.{◌%◌, ◌*◌, ◌+◌, ◌/◌, ◌<◌, ◌^◌, ◌≤◌, suc, zero, ℕ}
use native.Mathlib.Decide.{ℕ_discrete}
use native.Mathlib.Omega.{arith}
use borrow.Author.Tests.{eq-eqb, ne_eqb}
use lib.Bits.{bit_and}
use lib.Dec.{eqb, lit<}
use lib.ListN.{get_or, length}
use Rattle.word_fields.specs.Chains.{Found}
use Rattle.word_fields.specs.Fields.{field}
use Rattle.word_fields.specs.Frame.{Kept}
use Rattle.word_fields.proofs.Laws.{kept_then, kept-wider}
use Rattle.word_sets.specs.Sets.{in_set}
use Rattle.word_sets.proofs.Laws.{Four, has-bit}
use Rattle.word_rows.proofs.Laws.{row-above}
use Rattle.word_layout.specs.Layout.{letter_sets, set_table, targets}
use Rattle.table_sets.specs.Stepping.{set_of}
use Rattle.table_sets.proofs.Laws.{same-sets, set-off}
use Rattle.live_table.specs.SetRows.{RowAt, RowChain, left_row}
use Rattle.live_table.proofs.Laws.{lacking, left-kept, rows-kept}
use Rattle.live_table.proofs.Laws.{same_row}
use Rattle.live_building.proofs.Laws.{tabled}
use Rattle.count_sums.specs.Sums.{target_at}
use Rattle.count_targets.specs.Targets.{EmptyNumber, NumberOf, Numbers}

-- what is found is the number
pub found_number : {w u : List ℕ} {n r : ℕ} → letter_sets ≤ length w → n ≤ 512 → ((j : ℕ) → get_or w j 0 < 2 ^ 64) → Four u → Found (RowAt set_table w u u) n r → NumberOf w n u r
found_number {w} {u} long few words fu f = record { few = f.few; hit = λ l. (f.hit l).0; miss = λ h. lacking w u u few (tabled long) words fu fu f h }

-- the empty set is four words
pub empty-four : Four (0 ∷ 0 ∷ 0 ∷ 0 ∷ [])
empty-four = record { long = refl; fits = fits }
  where
    fits : (i : ℕ) → get_or (0 ∷ 0 ∷ 0 ∷ 0 ∷ []) i 0 < 2 ^ 64
    fits zero = lit< tt
    fits (suc zero) = lit< tt
    fits (suc (suc zero)) = lit< tt
    fits (suc (suc (suc zero))) = lit< tt
    fits (suc (suc (suc (suc i)))) = lit< tt

-- rows that are the same have the same numbers
number_same : {w w'' u : List ℕ} {n r : ℕ} → ((p : ℕ) → p < n → left_row set_table w'' p ≡ left_row set_table w p) → NumberOf w n u r → NumberOf w'' n u r
number_same {w} {w''} {r = r} same f = record {
  few = f.few;
  hit = λ l. same r l ∙ f.hit l;
  miss = λ h p l a b. f.miss h p l (λ j. ap (λ (s : List ℕ). in_set s j) (sym (same p l)) ∙ a j)
      (λ j. ap (λ (s : List ℕ). in_set s j) (same_row set_table refl w p ∙ sym (same p l) ∙ sym (same_row set_table refl w'' p)) ∙ b j);
}

-- the set of a letter that is not met, as the code tests the mask
pub unmet_empty : (w : List ℕ) (met l : ℕ) → l < 64 → bit_and met (1 * 2 ^ l % 2 ^ 64) ≡ 0 → 0 ∷ 0 ∷ 0 ∷ 0 ∷ [] ≡ set_of w letter_sets met l
unmet_empty w met l low off = set-off w letter_sets met l (sym (has-bit met l low) ∙ ap not (eq-eqb (bit_and met (1 * 2 ^ l % 2 ^ 64)) 0 off))

-- fields of targets were written
module _ {w₀ w : List ℕ} (long : letter_sets + 256 ≤ length w₀) (kept : Kept targets (targets + 1024) w₀ w) where
  pub chain-there : {n : ℕ} → n ≤ 512 → RowChain set_table w₀ n → RowChain set_table w n
  chain-there few = rows-kept (tabled (omega arith)) kept (inl (omega arith)) few

  left_there : (p : ℕ) → p < 512 → left_row set_table w p ≡ left_row set_table w₀ p
  left_there = left-kept (tabled (omega arith)) kept (inl (omega arith))

  -- a number among the rows that were there is one among those that are, and the other way round
  pub number-there : {u : List ℕ} {n r : ℕ} → n ≤ 512 → NumberOf w₀ n u r → NumberOf w n u r
  number-there few = number_same (λ p l. left_there p (omega arith))

  pub letter-there : {n r : ℕ} (met l : ℕ) → n ≤ 512 → NumberOf w n (set_of w letter_sets met l) r → NumberOf w₀ n (set_of w₀ letter_sets met l) r
  letter-there {n} {r} met l few f =
      subst (λ (u : List ℕ). NumberOf w₀ n u r) (same-sets w₀ w letter_sets met met l refl (row-above letter_sets l kept (omega arith)))
      (number_same (λ p h. sym (left_there p (omega arith))) f)

-- the first l letters are numbered, and `none` is the number of the empty set, if it is known
pub record Numbering (w₀ : List ℕ) (n met from l none : ℕ) (w : List ℕ) : Type 0 where
  pub kept : Kept targets (targets + 1024) w₀ w
  pub before : (k : ℕ) → k < from → field w targets k ≡ field w₀ targets k
  pub numbers : Numbers w₀ n met w from l
  pub empty : EmptyNumber w₀ n none

pub Numbering-more : {w₀ w w'' : List ℕ} {n met from a l none none' r : ℕ} → from + a ≤ 4096 → l < a → Numbering w₀ n met from l none w
    → NumberOf w₀ n (set_of w₀ letter_sets met l) r → EmptyNumber w₀ n none'
    → Kept (targets + (from + l) / 4) (targets + (from + l) / 4 + 1) w w'' → ((j : ℕ) → field w'' targets j ≡ cond (eqb j (from + l)) r (field w targets j))
    → Numbering w₀ n met from (l + 1) none' w''
Numbering-more {w₀} {w} {w''} {n} {met} {from} {a} {l} {none} {none'} {r} room low b here known k put = record {
  kept = kept_then b.kept (kept-wider (omega arith) (omega arith) k);
  before = λ j h. other j (λ e. omega arith) ∙ b.before j h;
  numbers = λ j h. go j h (ℕ_discrete j l);
  empty = known;
}
  where
    other : (j : ℕ) → ¬ (j ≡ from + l) → field w'' targets j ≡ field w targets j
    other j n = put j ∙ rw (ne_eqb j (from + l) n)

    own : field w'' targets (from + l) ≡ r
    own = put (from + l) ∙ rw (eq-eqb (from + l) (from + l) refl)

    go : (j : ℕ) → j < l + 1 → Dec (j ≡ l) → NumberOf w₀ n (set_of w₀ letter_sets met j) (target_at w'' (from + j))
    go j h (yes e) = rw (e, own) here
    go j h (no d) = rw (other (from + j) (λ e. d (omega arith))) (b.numbers j (omega arith))
