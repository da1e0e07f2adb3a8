-- Whether there may be a letter in both cases: not where all are above the capitals, or all below the small letters.
use mathlib.Core.Path.{◌≡◌, refl, sym, ◌∙◌}
use mathlib.Core.Logic.{◌⊎◌, inl, inr, ⊎_elim}
use mathlib.Core.Bool.{Bool, ◌&&◌, false, true}
use Prim.Native.Nat.{◌-◌}
use native.Mathlib.Omega.{arith}
use borrow.Author.Tests.{leb-false}
use lib.Dec.{leb}
use lib.ListN.{get_or, length}
use Rattle.file_fields.proofs.Laws.{one-kind, unlike-end}
use Rattle.format.proofs.letter_list.may_have_both_cases.Goals as goal

Either-fails : (a b : Bool) → (a && b) ≡ false → (a ≡ false) ⊎ (b ≡ false)
Either-fails true b e = inr e
Either-fails false b e = inl refl

pub returns-then-s-eq0 : goal.returns-then-s-eq0
returns-then-s-eq0 c = λ _. unlike-end c.args.s.now 0 (omega arith) ∙ sym c.if-s-eq0.true

pub returns : goal.returns
returns c = let lowest = get_or c.args.s.now 0 0 in
    let highest = get_or c.args.s.now (length c.args.s.now - 1) 0 in
    λ e. one-kind c.args.s.now c.requires (⊎_elim (λ f. inl (leb-false lowest 0x5A f)) (λ f. inr (leb-false 0x61 highest f)) (Either-fails (leb lowest 0x5A) (leb 0x61 highest) e))
