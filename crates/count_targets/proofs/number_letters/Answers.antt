use Rattle.std.proofs.Common.{List, arith, subst, sym, ℕ}
use Rattle.count_targets.specs.Targets.{EmptyNumber, NumberOf}
use Rattle.count_targets.proofs.Numbering.{chain-there, letter-there, number-there, Numbering-more, unmet_empty}
use Rattle.count_targets.proofs.number_letters.Goals as goal
use Rattle.count_targets.proofs.number_letters.Goals.{then-met-l-eq0, else-met-l-eq0}

pub number_of-number-requires-clause-n_bound : goal.number_of-number-requires-clause-n_bound
number_of-number-requires-clause-n_bound c = (c.requires.n_bound.0, chain-there c.requires.a_bound.1.1 c.loop-l.invariant.kept c.requires.n_bound.0 c.requires.n_bound.1)

pub number_of-number-requires-clause-empty_number : goal.number_of-number-requires-clause-empty_number
number_of-number-requires-clause-empty_number c h = number-there c.requires.a_bound.1.1 c.loop-l.invariant.kept c.requires.n_bound.0 (c.loop-l.invariant.empty h)

pub loop-l-preserved : goal.loop-l-preserved
loop-l-preserved c = let here = letter-there c.requires.a_bound.1.1 c.loop-l.invariant.kept c.args.met c.loop-l.l c.requires.n_bound.0 c.number_of-number.ensures in
    Numbering-more c.requires.a_bound.1.0 c.loop-l-test.true c.loop-l.invariant here
    (elim c.if-met-l-eq0.branch [
      | then-met-l-eq0 w ↦ subst (λ (r : ℕ). EmptyNumber c.args.w.now c.args.n r) (sym w.none-is)
          (λ h. subst (λ (u : List ℕ). NumberOf c.args.w.now c.args.n u c.number_of-number.result) (sym (unmet_empty c.args.w.now c.args.met c.loop-l.l (omega arith) w.if-met-l-eq0.true)) here)
      | else-met-l-eq0 w ↦ subst (λ (r : ℕ). EmptyNumber c.args.w.now c.args.n r) (sym w.none-is) c.loop-l.invariant.empty
    ])
    c.put16.ensures.kept c.put16.ensures.set
