-- OperationLoop: one arc at a place of the whole file, and the loop over its operations: what is left gives the whole.
use mathlib.Core.Path.{◌∙◌, ◌≡◌, ap, subst}
use Prim.Native.Nat.{◌%◌, ◌*◌, ◌+◌, ◌-◌, ◌<◌, ◌^◌, ◌≤◌, ℕ}
use lib.ListN.{drop, get_or}
use lib.Seq.{drop-drop, get_or-drop}
use mathlib.Core.List.{List}
use native.Mathlib.Nat.{add-zero}
use native.Mathlib.Omega.{arith}
use Rattle.table_operations.specs.Packed.{Fitting, act_packed, and_then, hop, hop_with, perform_packed}
use Rattle.std.specs.Prelude.{Option, Some, None}
use Rattle.format.specs.Decoding.{letter_of}
use Rattle.format.specs.Placed.{OkOps}
use Rattle.file_fields.proofs.Laws.{down}

pub first-at : (s : List ℕ) (at : ℕ) → get_or (drop at s) 0 0 ≡ get_or s at 0
first-at s at = get_or-drop at s 0 0 ∙ ap (λ (k : ℕ). get_or s k 0) (add-zero at)

-- the arc at a place of the file, performed on `own`
pub hop-at : (file : List ℕ) (at own : ℕ)
    → hop (drop at file) own ≡ hop_with (perform_packed (get_or file (at + 3) 0) (drop (at + 4) file) (own % 2 ^ 32)) (letter_of (get_or file (at + 1) 0)) (get_or file (at + 2) 0)
unfolding hop
hop-at file at own = rw (get_or-drop at file 1 0, get_or-drop at file 2 0, get_or-drop at file 3 0, drop-drop 4 at file)

-- k of the p operations of the arc at a place have been performed on the configuration `own`, and left `regs`
pub record Performing (file : List ℕ) (at p own k regs : ℕ) : Type 0 where
  pub few : k ≤ p
  pub fits : regs < 2 ^ 32
  pub ok : OkOps 8 (p - k) (drop (at + 4 + 2 * k) file)
  pub rest : perform_packed p (drop (at + 4) file) (own % 2 ^ 32) ≡ perform_packed (p - k) (drop (at + 4 + 2 * k) file) regs

module _ (file : List ℕ) (at p own : ℕ) where
  pub Performing-start : (regs : ℕ) → regs ≡ own % 2 ^ 32 → OkOps 8 p (drop (at + 4) file) → Performing file at p own 0 regs
  Performing-start regs e ok =
      let a : at + 4 + 2 * 0 ≡ at + 4 = omega arith in
      let b : p - 0 ≡ p = omega arith in
      record { few = omega arith; fits = omega arith; ok = rw (a, b) ok; rest = rw (a, b, e) }

  module _ {k regs : ℕ} (less : k < p) (h : Performing file at p own k regs) where
    at_next : at + 4 + 2 * (k + 1) ≡ at + 4 + 2 * k + 2
    at_next = omega arith

    ok_at : (get_or file (at + 4 + 2 * k) 0 % 16 < 8) × (get_or file (at + 4 + 2 * k + 1) 0 < 16) × OkOps 8 (p - (k + 1)) (drop (at + 4 + 2 * (k + 1)) file)
    unfolding OkOps
    ok_at =
        rw at_next
        (rw (down p k less, first-at file (at + 4 + 2 * k), get_or-drop (at + 4 + 2 * k) file 1 0, drop-drop 2 (at + 4 + 2 * k) file) at h.ok)

    -- what the next operation is asked
    pub next-ok : (get_or file (at + 4 + 2 * k) 0 % 16 < 8) × (get_or file (at + 4 + 2 * k + 1) 0 < 16)
    next-ok = (ok_at.0, ok_at.1)

    step : perform_packed p (drop (at + 4) file) (own % 2 ^ 32)
        ≡ and_then (act_packed (get_or file (at + 4 + 2 * k) 0) (get_or file (at + 4 + 2 * k + 1) 0) regs) (λ v. perform_packed (p - (k + 1)) (drop (at + 4 + 2 * (k + 1)) file) v)
    unfolding perform_packed
    step =
        h.rest
        ∙ rw (down p k less, first-at file (at + 4 + 2 * k), get_or-drop (at + 4 + 2 * k) file 1 0, drop-drop 2 (at + 4 + 2 * k) file, at_next)

    -- it answers r
    module _ {r : Option ℕ} (is : r ≡ act_packed (get_or file (at + 4 + 2 * k) 0) (get_or file (at + 4 + 2 * k + 1) 0) regs) where
      pub Performing-failed : r ≡ None → perform_packed p (drop (at + 4) file) (own % 2 ^ 32) ≡ None
      Performing-failed e = step ∙ rw (← is, e)

      pub Performing-more : Fitting r → (v : ℕ) → r ≡ Some v → Performing file at p own (k + 1) v
      Performing-more f v e = record {
        few = omega arith;
        fits = subst (λ (o : Option ℕ). Fitting o) e f;
        ok = ok_at.2;
        rest = step ∙ rw (← is, e);
      }

  pub Performing-end : {k regs : ℕ} → p ≤ k → Performing file at p own k regs → perform_packed p (drop (at + 4) file) (own % 2 ^ 32) ≡ Some regs
  unfolding perform_packed
  Performing-end {k} {regs} h s = s.rest ∙ (let e : p - k ≡ 0 = omega arith in rw e)
