-- RelistingLaws: one listed arc after the other gets its new number.
use mathlib.Core.Path.{◌∙◌, ◌≡◌, refl}
use mathlib.Core.Bool.{cond}
use mathlib.Core.List.{List}
use Prim.Native.Nat.{◌+◌, ◌/◌, ◌<◌, ◌≤◌, ℕ}
use native.Mathlib.Decide.{ℕ_discrete}
use native.Mathlib.Omega.{arith}
use borrow.Author.Tests.{eq-eqb, ne_eqb}
use lib.Dec.{eqb}
use Rattle.relettering.specs.Relettering.{letter_by}
use Rattle.word_layout.specs.Layout.{arcs_at, packed_arc, starts_at}
use Rattle.word_layout.specs.declared.Block.{Block}
use Rattle.word_fields.specs.Fields.{field}
use Rattle.word_fields.specs.Frame.{Kept}
use Rattle.word_fields.proofs.Laws.{kept_same, kept_then, kept-wider}
use Rattle.table_sets.specs.Stepping.{plain_letter_at, target_at}
use Rattle.table_relettering.specs.Relisting.{Relisted}

-- the arcs before k have their new numbers, and the others are as they were
pub record Relisting (new w₀ : List ℕ) (base k : ℕ) (w : List ℕ) : Type 0 where
  pub kept : Kept (arcs_at base) (starts_at base) w₀ w
  pub done : (i : ℕ) → i < k → field w (arcs_at base) i ≡ packed_arc (letter_by new (plain_letter_at w₀ base i)) (target_at w₀ base i)
  pub rest : (i : ℕ) → k ≤ i → field w (arcs_at base) i ≡ field w₀ (arcs_at base) i

pub Relisting-start : (new w : List ℕ) (base : ℕ) → Relisting new w base 0 w
Relisting-start new w base = record { kept = kept_same (arcs_at base) (starts_at base) w; done = λ i h. absurd (omega arith); rest = λ i h. refl }

-- arc k gets its new number
module _ {new w₀ w w' : List ℕ} {base k letter target : ℕ} (v : Relisting new w₀ base k w) (low : k < 2048) (is : letter ≡ letter_by new (plain_letter_at w base k)) (to : target ≡ target_at w base k)
    (kept : Kept (arcs_at base + k / 4) (arcs_at base + k / 4 + 1) w w') (put : (i : ℕ) → field w' (arcs_at base) i ≡ cond (eqb i k) (packed_arc letter target) (field w (arcs_at base) i)) where
  other : (i : ℕ) → ¬ (i ≡ k) → field w' (arcs_at base) i ≡ field w (arcs_at base) i
  other i n = put i ∙ rw (ne_eqb i k n)

  new-arc : packed_arc letter target ≡ packed_arc (letter_by new (plain_letter_at w₀ base k)) (target_at w₀ base k)
  new-arc = rw (is, to, v.rest k (omega arith))

  done : (i : ℕ) → i < k + 1 → Dec (i ≡ k) → field w' (arcs_at base) i ≡ packed_arc (letter_by new (plain_letter_at w₀ base i)) (target_at w₀ base i)
  done i h (yes e) = rw e (put k ∙ rw (eq-eqb k k refl) new-arc)
  done i h (no n) = other i n ∙ v.done i (omega arith)

  pub Relisting-more : Relisting new w₀ base (k + 1) w'
  Relisting-more = record {
    kept = kept_then v.kept (kept-wider (omega arith) (omega arith) kept);
    done = λ i h. done i h (ℕ_discrete i k);
    rest = λ i h. other i (λ e. omega arith) ∙ v.rest i (omega arith);
  }

-- all have theirs
pub relisted : {new w₀ w : List ℕ} {block : Block} {k : ℕ} → Relisting new w₀ block.base k w → block.plain ≤ k → Relisted new w₀ w block
relisted v h = record { kept = v.kept; arcs = λ i l. v.done i (omega arith) }
