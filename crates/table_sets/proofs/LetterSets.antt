-- LetterSets: the sets of the letters, of which a mask says which are met.
use mathlib.Core.Path.{◌∙◌, ◌≡◌, ap, ap₂, sym}
use mathlib.Core.Bool.{Bool, ◌&&◌, ◌||◌, cond, false, not, or-false, true}
use mathlib.Core.List.{List, [], ◌∷◌}
use Prim.Native.Nat.{◌%◌, ◌*◌, ◌+◌, ◌<◌, ◌^◌, ℕ}
use native.Mathlib.Decide.{ℕ_discrete}
use borrow.Author.Tests.{eq-eqb, ne_eqb}
use lib.Bits.{bit_and, bit_or}
use lib.Dec.{eqb}
use Rattle.word_fields.specs.Frame.{Kept}
use Rattle.word_sets.specs.Sets.{bit, in_set}
use Rattle.word_rows.specs.Rows.{related, row}
use Rattle.word_sets.proofs.Laws.{bit-with, bit-zero, empty-set, has-bit}
use Rattle.word_rows.proofs.Laws.{row_other}
use Rattle.table_sets.specs.Stepping.{set_of}

-- the mask of letter l, as the code makes it
abbrev pub mask_of : ℕ → ℕ
mask_of l = 1 * 2 ^ l % 2 ^ 64

pub met-on : (met l : ℕ) → l < 64 → ¬ (bit_and met (mask_of l) ≡ 0) → bit met l ≡ true
met-on met l h n = sym (has-bit met l h) ∙ ap not (ne_eqb (bit_and met (mask_of l)) 0 n)

pub met-off : (met l : ℕ) → l < 64 → bit_and met (mask_of l) ≡ 0 → bit met l ≡ false
met-off met l h e = sym (has-bit met l h) ∙ ap not (eq-eqb (bit_and met (mask_of l)) 0 e)

pub set_on : (w : List ℕ) (acc met l : ℕ) → bit met l ≡ true → row w acc l ≡ set_of w acc met l
unfolding set_of
set_on w acc met l e = rw e

pub set-off : (w : List ℕ) (acc met l : ℕ) → bit met l ≡ false → 0 ∷ 0 ∷ 0 ∷ 0 ∷ [] ≡ set_of w acc met l
unfolding set_of
set-off w acc met l e = rw e

pub same-sets : (w w' : List ℕ) (acc met met' p : ℕ) → bit met' p ≡ bit met p → row w' acc p ≡ row w acc p → set_of w' acc met' p ≡ set_of w acc met p
unfolding set_of
same-sets w w' acc met met' p e f = ap₂ (λ (b : Bool) (s : List ℕ). cond b s (0 ∷ 0 ∷ 0 ∷ 0 ∷ [])) e f

-- no letter is met
pub none-met : (w : List ℕ) (acc p j : ℕ) → in_set (set_of w acc 0 p) j ≡ false
none-met w acc p j = ap (λ (s : List ℕ). in_set s j) (sym (set-off w acc 0 p (bit-zero p))) ∙ empty-set j

-- `both` is stored for letter l: the union of its old set and of the row of t
module _ {w w' : List ℕ} {old new both : List ℕ} (base acc l t met : ℕ) (h : l < 64) (was : old ≡ set_of w acc met l) (is : new ≡ row w base t)
    (united : (j : ℕ) → in_set both j ≡ (in_set old j || in_set new j)) (kept : Kept (acc + 4 * l) (acc + 4 * l + 4) w w') (put : row w' acc l ≡ both) where
  pub joined : (p j : ℕ) → in_set (set_of w' acc (bit_or met (mask_of l)) p) j ≡ (in_set (set_of w acc met p) j || (eqb p l && related w base t j))
  unfolding related
  joined p j = go (ℕ_discrete p l)
    where
      met' : ℕ
      met' = bit_or met (mask_of l)

      go : Dec (p ≡ l) → in_set (set_of w' acc (bit_or met (mask_of l)) p) j ≡ (in_set (set_of w acc met p) j || (eqb p l && in_set (row w base t) j))
      go (yes e) =
          ap (λ (s : List ℕ). in_set s j) (sym (set_on w' acc met' p (bit-with met l h p ∙ ap (λ (b : Bool). b || bit met p) (eq-eqb p l e))) ∙ ap (row w' acc) e ∙ put)
          ∙ united j ∙ ap₂ (λ (s u : List ℕ). in_set s j || in_set u j) (was ∙ ap (set_of w acc met) (sym e)) is
          ∙ ap (λ (b : Bool). in_set (set_of w acc met p) j || (b && in_set (row w base t) j)) (sym (eq-eqb p l e))
      go (no n) =
          ap (λ (s : List ℕ). in_set s j) (same-sets w w' acc met met' p (bit-with met l h p ∙ ap (λ (b : Bool). b || bit met p) (ne_eqb p l n)) (row_other acc l p kept n))
          ∙ sym (or-false (in_set (set_of w acc met p) j))
          ∙ ap (λ (b : Bool). in_set (set_of w acc met p) j || (b && in_set (row w base t) j)) (sym (ne_eqb p l n))
