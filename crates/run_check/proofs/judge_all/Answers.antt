-- The automaton is ready at each call of the closure, and is so again behind it.
use Rattle.std.proofs.Common.{rules}
use denote.Param.Always.{mut_by}
use Rattle.table.specs.Judging.{Judging}
use Rattle.run_check.proofs.judge_all.Goals as goal

pub each_line-requires-clause-callable : goal.each_line-requires-clause-callable
each_line-requires-clause-callable c =
    mut_by _ (λ s. Judging s.1.now s.2.now s.3.now s.4.now) (λ s a i. search (rules, i)) (λ s a r t i e. search (rules, i, e)) _ (search rules)
