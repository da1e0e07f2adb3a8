-- `live_table::is_row` meets its contract: the left set is compared, and the right one, unless a row has one set and one is asked for.
use native.Mathlib.Omega.{arith}
use borrow.Author.Tests.{eq-eqb}
use Rattle.std.proofs.Common.{◌≡◌, ◌∙◌, ◌-◌, ℕ, [], ap, get_or, length, subst, sym, T}
use Rattle.live_table.proofs.RowFrames.{same_row}
use Rattle.live_table.proofs.RowNumbers.{numbered}
use Rattle.live_table.proofs.is_row.Goals as goal

pub returns-then-this-eq1 : goal.returns-then-this-eq1
returns-then-this-eq1 g c =
    let one : c.args.t.sets ≡ 1 = omega (arith, (numbered c.requires.1.0 c.requires.0).some_set, c.requires.1.1, c.if-this-eq1.true) in
    let left = sym c.left.ensures ∙ c.same.ensures.0 (subst T (sym c.if-same.true) tt) in
    let only : 0 ≡ length c.args.sets - 1 = omega (arith, c.if-this-eq1.true) in
    (λ _. (left, same_row c.args.t one c.args.w.now c.args.i ∙ left ∙ ap (λ (k : ℕ). get_or c.args.sets k []) only), λ _. subst T (sym (eq-eqb g.row.SETS 1 c.if-this-eq1.true)) tt)

pub returns-else-this-eq1 : goal.returns-else-this-eq1
returns-else-this-eq1 g c =
    let last : g.row.SETS - 1 ≡ length c.args.sets - 1 = omega arith in
    let right = ap (λ (k : ℕ). get_or c.args.sets k []) last in (
      λ x. (sym c.left.ensures ∙ c.same.ensures.0 (subst T (sym c.if-same.true) tt), sym c.right.ensures ∙ c.same-else-this-eq1.ensures.0 x ∙ right),
      λ p. c.same-else-this-eq1.ensures.1 (c.right.ensures ∙ p.1 ∙ sym right),
    )

pub returns-else-same : goal.returns-else-same
returns-else-same g c = (λ x. absurd (subst T c.if-same.false x), λ p. c.same.ensures.1 (c.left.ensures ∙ p.0))
