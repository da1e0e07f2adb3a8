-- At each call of the closure there is room for the places of any word, which is no longer than the buffer of the input.
use Rattle.std.proofs.Common.{◌≤◌, arith, length, rules}
use denote.Param.Always.{mut_by}
use Rattle.run_ranges.specs.Letters.{FewApart}
use Rattle.run_ranges.proofs.judge_all.Goals as goal

pub each_line-requires-clause-callable : goal.each_line-requires-clause-callable
each_line-requires-clause-callable c =
    mut_by _ (λ s. FewApart s.2.now × (131072 ≤ length s.3.now)) (λ s a i. search (rules, arith, i.0, i.1, a.0.short)) (λ s a r t i e. search (rules, i, e)) _ (search rules)
