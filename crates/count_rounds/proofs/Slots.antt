-- Slots: the targets of a set stand in the slot of its number, or in the last one; what is noted in a slot leaves those before it.
use mathlib.Core.Path.{◌∙◌, ◌≡◌, ap, subst, sym}
use mathlib.Core.Logic.{inl}
use mathlib.Core.List.{List}
use Prim.Native.Nat.{◌*◌, ◌+◌, ◌/◌, ◌<◌, ◌≤◌, ℕ}
use native.Mathlib.Nat.{mul-le-mul_right, suc-mul}
use native.Mathlib.Numerals.{add-one}
use native.Mathlib.Decide.{dec_lt}
use native.Mathlib.Omega.{arith}
use Rattle.file_fields.specs.declared.Counts.{Counts}
use Rattle.word_fields.specs.Fields.{field}
use Rattle.word_fields.specs.Frame.{Kept}
use Rattle.word_fields.proofs.Laws.{field-same}
use Rattle.word_layout.specs.Layout.{targets}
use Rattle.word_layout.specs.declared.Block.{Block}
use Rattle.count_targets.specs.Counting.{Counting, Noted, set_numbered}
use Rattle.count_targets.proofs.Laws.{counting_kept}
use Rattle.count_rounds.specs.Rounds.{Rounds}

-- ---- places
one_more : (i a : ℕ) → (i + 1) * a ≡ i * a + a
one_more i a = ap (λ (n : ℕ). n * a) (add-one i) ∙ suc-mul i a

-- a slot ends within the targets
pub slot-room : (a slot kept : ℕ) → slot ≤ kept → (kept + 1) * a ≤ 4096 → slot * a + a ≤ 4096
slot-room a slot kept h r = let m : (slot + 1) * a ≤ (kept + 1) * a = mul-le-mul_right a (omega arith) in omega (arith, one_more slot a)

-- and before those behind it
pub slot-before : (a i slot l : ℕ) → i < slot → l < a → i * a + l < slot * a
slot-before a i slot l h g = let m : (i + 1) * a ≤ slot * a = mul-le-mul_right a (omega arith) in omega (arith, one_more i a)

-- ---- what is noted
pub noted-same : {file : List ℕ} {n a : ℕ} {w w'' : List ℕ} {i slot : ℕ} → ((l : ℕ) → l < a → field w'' targets (slot * a + l) ≡ field w targets (slot * a + l)) → Noted file n a w i slot → Noted file n a w'' i slot
noted-same {file} {n} same o = record {
  low = λ l h. subst (λ (r : ℕ). r < n) (sym (same l h)) (o.low l h);
  leads = λ l h. ap (set_numbered file) (same l h) ∙ o.leads l h;
}

-- counts were written
pub rounds-kept : {file : List ℕ} {c : Counts} {w w'' : List ℕ} {block : Block} {n kept lo hi : ℕ} → hi ≤ targets → Kept lo hi w w'' → Rounds file c w block n kept → Rounds file c w'' block n kept
rounds-kept {c = c} {w} {w''} h k r = record {
  counting = counting_kept r.counting (inl (omega arith)) k;
  room = r.room;
  noted = λ i l m. noted-same (λ j d. field-same w w'' targets (i * c.letters + j) (k.above (targets + (i * c.letters + j) / 4) (omega arith))) (r.noted i l m);
}

-- ---- the targets of the first i sets are noted, each in the slot of its number
pub record Noting (file : List ℕ) (c : Counts) (w : List ℕ) (block : Block) (n i : ℕ) : Type 0 where
  pub counting : Counting file c w block n
  pub noted : (j : ℕ) → j < i → Noted file n c.letters w j j

-- a slot was written: those before it are as they were
earlier : {file : List ℕ} {n a : ℕ} {w w'' : List ℕ} (slot : ℕ) → ((k : ℕ) → k < slot * a → field w'' targets k ≡ field w targets k) → (j : ℕ) → j < slot → Noted file n a w j j → Noted file n a w'' j j
earlier {a = a} slot before j h = noted-same (λ l g. before (j * a + l) (slot-before a j slot l h g))

module _ {file : List ℕ} {c : Counts} {w w'' : List ℕ} {block : Block} {n : ℕ} (still : Counting file c w'' block n) (slot : ℕ)
    (before : (k : ℕ) → k < slot * c.letters → field w'' targets k ≡ field w targets k) where
  -- it has the targets of the set with its number
  pub noting-more : Noted file n c.letters w'' slot slot → Noting file c w block n slot → Noting file c w'' block n (slot + 1)
  noting-more own b = record { counting = still; noted = λ j h. go j h (dec_lt j slot) }
    where
      go : (j : ℕ) → j < slot + 1 → Dec (j < slot) → Noted file n c.letters w'' j j
      go j h (yes d) = earlier slot before j d (b.noted j d)
      go j h (no d) = let e : slot ≡ j = omega arith in subst (λ (k : ℕ). Noted file n c.letters w'' k k) e own

  -- it is the last one
  pub rounds-noted : Rounds file c w block n slot → Rounds file c w'' block n slot
  rounds-noted r = record { counting = still; room = r.room; noted = λ j l h. earlier slot before j h (r.noted j l h) }
