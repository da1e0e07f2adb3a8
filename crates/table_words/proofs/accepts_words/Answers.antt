-- `table_words::accepts_words` meets its contract: the file is refused, or the words are judged (Refusals).
use mathlib.Core.Path.{◌∙◌, ap, refl, subst, sym}
use mathlib.Core.List.{List}
use Prim.Native.Nat.{ℕ}
use lib.ListN.{length}
use Rattle.std.proofs.lemmas.Result.{err_from_is_err_and}
use Rattle.std.specs.Prelude.{Ok}
use Rattle.table.specs.Judging.{PreparedBy}
use Rattle.table_words.specs.Words.{answered, words_in}
use Rattle.table_words.proofs.Refusals.{answers-are, call_judged, call_refused}
use Rattle.table_words.proofs.accepts_words.Goals as goal
use Rattle.table_words.proofs.accepts_words.Goals.{In_ok-opened}

-- the file is open, and its automaton is ready
ready : (v : goal.In_ok-opened) → PreparedBy v.args.file.now (length v.args.work.now) v.prepare.new.work (Ok v.in_ok-opened.opened)
ready v = subst (PreparedBy v.args.file.now (length v.args.work.now) v.prepare.new.work) v.in_ok-opened.was v.prepare.ensures.ready

pub judge_words-requires : goal.judge_words-requires
judge_words-requires c = (ready (goal.at.judge_words-requires c).In_ok-opened).1

-- the file is refused
pub returns-in_err-opened : goal.returns-in_err-opened
unfolding answered
returns-in_err-opened c = let q = err_from_is_err_and c.from_residual.result c.from_residual.ensures.1 in
    let e = subst (PreparedBy c.args.file.now (length c.args.work.now) c.prepare.new.work) c.in_err-opened.was c.prepare.ensures.ready in rw (q.1, q.2) (record { same = c.prepare.ensures.same; answer = sym (call_refused c.args.file.now (length c.args.work.now) c.args.bytes.now c.args.separator (length c.args.answers.now) e); answers = refl })

-- the words are judged
pub returns : goal.returns
returns c = let e = (ready (goal.at.returns c).In_ok-opened).0 in
    let words = length c.args.work.now in
    let room = length c.args.answers.now in record { same = c.judge_words.ensures.same ∙ c.prepare.ensures.same; answer = ap Ok c.judge_words.ensures.answer ∙ sym (call_judged c.args.file.now words c.args.bytes.now c.args.separator room e); answers = c.judge_words.ensures.answers ∙ ap (λ (front : List ℕ). answered (Ok c.judge_words.result) front c.args.answers.now) (sym (answers-are c.args.file.now words e (words_in c.args.separator room c.args.bytes.now))) }
