-- `table::judging::judge` meets its contract: what is live after the word and final says the answer (JudgeWord).
use mathlib.Core.Path.{◌∙◌, ◌≡◌, ap, sym}
use mathlib.Core.Bool.{cond}
use Rattle.format.specs.Decoding.{automaton_of}
use Rattle.word_sets.specs.Sets.{view}
use Rattle.table.specs.Judging.{Judging}
use Rattle.table.specs.Membership.{judged}
use Rattle.table.specs.declared.Membership.TheVariants.{Accepted, Rejected}
use Rattle.table.proofs.JudgeWord.{judge_is}
use Rattle.table.proofs.JudgingLaws.{Judging-kept}
use Rattle.table.proofs.judging.judge.Goals as goal
use Rattle.table.proofs.judging.judge.Goals.{After-live_set-live, After-meets}

-- it is ready again
ready : (v : goal.After-live_set-live) → Judging v.args.file.now v.args.c v.live_set-live.new.w v.args.block
ready v = Judging-kept v.live_set-live.ensures.kept v.requires

-- what the word leaves
answer : (m : goal.After-meets) → judged 256 (automaton_of m.args.file.now) m.args.word.now ≡ cond m.meets.result (Accepted m.size-many.result) (Rejected m.size-many.result)
answer m = let ready' : Judging m.args.file.now m.args.c m.live_set-live.new.w m.args.block = Judging-kept m.live_set-live.ensures.kept m.requires in
    judge_is m.args.word.now m.live_set-live.result m.load.result m.meets.result m.size-many.result m.requires.built m.live_set-live.ensures.live.is m.live_set-live.ensures.live.inside (ap (view m.args.block.count) m.load.ensures ∙ (ready').finals) m.meets.ensures m.size-many.ensures

pub returns-then-meets : goal.returns-then-meets
returns-then-meets c = record { kept = c.live_set-live.ensures.kept; ready = ready (goal.at.returns-then-meets c).After-live_set-live; answer = sym (answer (goal.at.returns-then-meets c).After-meets ∙ rw c.if-meets.true) }

pub returns-else-meets : goal.returns-else-meets
returns-else-meets c = record { kept = c.live_set-live.ensures.kept; ready = ready (goal.at.returns-else-meets c).After-live_set-live; answer = sym (answer (goal.at.returns-else-meets c).After-meets ∙ rw c.if-meets.false) }
