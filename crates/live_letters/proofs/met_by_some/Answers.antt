-- `live_letters::met_by_some` meets its contract: a digit of the union of two words is a digit of one.
use native.Mathlib.Omega.{arith}
use Rattle.std.proofs.Common.{◌≡◌, ◌∙◌, ◌||◌, Bool, true, false, below_more, get_or, refl, sym}
use Rattle.word_sets.specs.Sets.{bit}
use Rattle.word_sets.proofs.Laws.{bit-or, bit-zero}
use Rattle.live_letters.proofs.met_by_some.Goals as goal

neither : (p q : Bool) → (p || q) ≡ false → (p ≡ false) × (q ≡ false)
neither false q e = (refl, e)
neither true q e = absurd (cc)

pub loop-side-init : goal.loop-side-init
loop-side-init g c = λ k. (λ e j h. absurd (omega (arith, h)), λ f. bit-zero k)

pub loop-side-preserved : goal.loop-side-preserved
loop-side-preserved g c = λ k.
    let side = get_or c.args.met c.loop-side.side-index 0 in (
      λ e. let o = neither (bit c.loop-side.some k) (bit side k) (sym (bit-or c.loop-side.some side k) ∙ e) in below_more _ _ ((c.loop-side.invariant k).0 o.0) o.1,
      λ f. bit-or c.loop-side.some side k ∙ rw ((c.loop-side.invariant k).1 (λ j h. f j (omega arith))) (f c.loop-side.side-index (omega arith)),
    )
