-- `table::accepts` meets its contract: where the file is ready, the word is judged (Opening).
use mathlib.Core.Path.{◌∙◌, ◌≡◌, ap, subst, sym}
use mathlib.Core.List.{[]}
use lib.ListN.{length}
use Rattle.std.proofs.lemmas.Result.{err_from_is_err_and}
use Rattle.std.specs.Prelude.{Ok, Result}
use Rattle.file_fields.specs.declared.Refusal.{Refusal}
use Rattle.format.specs.Decoding.{automaton_of}
use Rattle.format.specs.Refusals.{refused}
use Rattle.table.specs.Judging.{PreparedBy}
use Rattle.table.specs.Membership.{judged, membership_of}
use Rattle.table.specs.declared.Opened.{Opened}
use Rattle.table.proofs.Opening.{opened-passed, opened-refused}
use Rattle.table.proofs.accepts.Goals as goal
use Rattle.table.proofs.accepts.Goals.{After-prepare}

-- what preparing leaves, by what it answers
prepared : (p : goal.After-prepare) (r : Result Opened Refusal) → p.prepare.result ≡ r → PreparedBy p.args.file.now (length p.args.work.now) p.prepare.new.work r
prepared p r e = subst (PreparedBy p.args.file.now (length p.args.work.now) p.prepare.new.work) e p.prepare.ensures.ready

-- the file is refused
pub returns-in_err-opened : goal.returns-in_err-opened
unfolding membership_of
returns-in_err-opened c = let p = err_from_is_err_and c.from_residual.result c.from_residual.ensures.1 in
    rw (p.1, p.2) (record { same = c.prepare.ensures.same; answer = sym (opened-refused c.args.file.now (length c.args.work.now) refused [] (Ok (judged 256 (automaton_of c.args.file.now) c.args.word.now)) (prepared (goal.at.returns-in_err-opened c).After-prepare _ c.in_err-opened.was)) })

pub judge-requires : goal.judge-requires
judge-requires c = (prepared (goal.at.judge-requires c).After-prepare _ c.in_ok-opened.was).1

-- the word is judged
pub returns : goal.returns
unfolding membership_of
returns c = record { same = c.judge.ensures.kept.long ∙ c.prepare.ensures.same; answer = ap Ok c.judge.ensures.answer ∙ sym (opened-passed c.args.file.now (length c.args.work.now) refused [] (Ok (judged 256 (automaton_of c.args.file.now) c.args.word.now)) (prepared (goal.at.returns c).After-prepare _ c.in_ok-opened.was).0) }
