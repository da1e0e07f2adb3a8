use mathlib.Core.Path.{◌∙◌, ◌≡◌, ap, refl, sym}
use mathlib.Core.List.{List, [], ◌∷◌, ◌++◌}
use Prim.Native.Nat.{ℕ}
use native.Mathlib.Numerals.{add-one}
use native.Mathlib.Omega.{arith}
use lib.ListN.{get_or, length, take, length-set}
use lib.Seq.{take_all, take-suc, take-suc-set}
use Rattle.file_letters.proofs.joining.copied.Goals as goal

pub loop-i-init : goal.loop-i-init
loop-i-init c = (refl, refl)

pub loop-i-preserved : goal.loop-i-preserved
loop-i-preserved c = (
  length-set c.loop-i.copy c.loop-i.i _ ∙ c.loop-i.invariant.0,
  rw add-one (take-suc-set c.loop-i.copy c.loop-i.i (get_or c.args.list.now c.loop-i.i 0) (omega (arith, c.loop-i.invariant.0)) ∙ ap (λ (t : List ℕ). t ++ (get_or c.args.list.now c.loop-i.i 0 ∷ [])) c.loop-i.invariant.1 ∙ sym (take-suc c.args.list.now c.loop-i.i 0 (omega arith))),
)

pub returns : goal.returns
returns c = let e : c.loop-i.i ≡ length c.args.list.now = omega arith in
    ap (λ (n : ℕ). take n c.loop-i.copy) (sym e) ∙ c.loop-i.invariant.1 ∙ take_all c.loop-i.i c.args.list.now (omega arith)
