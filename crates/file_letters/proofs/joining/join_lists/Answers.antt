use mathlib.Core.Path.{◌∙◌, ◌≡◌, ap, sym}
use mathlib.Core.Bool.{false}
use Prim.Native.Nat.{◌+◌, ◌-◌, ◌≤◌}
use native.Mathlib.Omega.{arith}
use borrow.Author.Rules.{rules}
use borrow.Author.Tests.{not-false, not-true}
use lib.ListN.{drop, get_or, length}
use Rattle.automata.specs.Letters.{same_key}
use Rattle.automata.specs.Lists.{any}
use Rattle.relettering.specs.Relettering.{inserted, joined_letters}
use Rattle.relettering.proofs.Laws.{joined-long}
use Rattle.file_letters.proofs.JoinLaws.{joined-more, joined-new, joined-none, joined-old, joined-part}
use Rattle.file_letters.proofs.joining.join_lists.Goals as goal
use Rattle.file_letters.proofs.joining.join_lists.Goals.{Then-is_new}

-- the byte of this turn stands for none of the first list's letters, and the list with it is no longer than the whole
unlisted : (t : goal.Then-is_new) → any (same_key (get_or t.args.second.now (t.loop-i.i - 1) 0)) t.args.first.now ≡ false
unlisted t = not-true _ (sym t.is_new.ensures ∙ t.if-is_new.true)

more : (t : goal.Then-is_new) → (length (joined_letters t.args.first.now (drop (t.loop-i.i - 1) t.args.second.now)) ≡ length (joined_letters t.args.first.now (drop t.loop-i.i t.args.second.now)) + 1) × (length (joined_letters t.args.first.now (drop (t.loop-i.i - 1) t.args.second.now)) ≤ 64)
more t = (joined-more t.args.first.now t.args.second.now t.loop-i.i (omega arith) t.loop-i.auto.i (unlisted t), omega (arith, joined-part t.args.first.now t.args.second.now (t.loop-i.i - 1), t.requires))

pub copied-letters-requires : goal.copied-letters-requires
copied-letters-requires c = omega (arith, c.requires, (joined-long c.args.first.now c.args.second.now).0)

pub loop-i-init : goal.loop-i-init
loop-i-init c = let e = joined-none c.args.first.now c.args.second.now in (search rules, sym (ap length e), c.copied-letters.ensures ∙ sym e)

pub insert-requires : goal.insert-requires
insert-requires c = omega (arith, more (goal.at.insert-requires c).Then-is_new, c.loop-i.invariant.0, c.loop-i.invariant.1)

pub loop-i-preserved-then-is_new : goal.loop-i-preserved-then-is_new
loop-i-preserved-then-is_new c = (
  c.insert.ensures.same ∙ c.loop-i.invariant.0,
  omega (arith, more (goal.at.loop-i-preserved-then-is_new c).Then-is_new, c.loop-i.invariant.1),
  c.insert.ensures.inserted ∙ ap (inserted (get_or c.args.second.now (c.loop-i.i - 1) 0)) c.loop-i.invariant.2 ∙ sym (joined-new c.args.first.now c.args.second.now c.loop-i.i (omega arith) c.loop-i.auto.i (unlisted (goal.at.loop-i-preserved-then-is_new c).Then-is_new)),
)

pub loop-i-preserved : goal.loop-i-preserved
loop-i-preserved c = let e = joined-old c.args.first.now c.args.second.now c.loop-i.i (omega arith) c.loop-i.auto.i (not-false _ (sym c.is_new.ensures ∙ c.if-is_new.false)) in
    (c.loop-i.invariant.0, c.loop-i.invariant.1 ∙ sym (ap length e), c.loop-i.invariant.2 ∙ sym e)
