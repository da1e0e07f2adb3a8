-- `unfold::unfold` meets its contract: where the file is open, the answer is that of its automaton (Answering).
use mathlib.Core.Path.{◌∙◌, refl, subst, sym}
use lib.ListN.{length}
use Rattle.std.proofs.lemmas.Result.{err_from_is_err_and}
use Rattle.table.specs.Opening.{HeldBy, Holds}
use Rattle.unfold.proofs.AnswerLaws.{answer-open, answer-refused}
use Rattle.unfold.proofs.unfold.Goals as goal
use Rattle.unfold.proofs.unfold.Goals.{In_ok-opened}

-- the block of the open file
held : (c : goal.In_ok-opened) → Holds c.args.file.now c.in_ok-opened.opened.counts c.open_file.new.work c.in_ok-opened.opened.block
held c = subst (HeldBy c.args.file.now c.open_file.new.work) c.in_ok-opened.was c.open_file.ensures.block

-- the file is refused
pub returns-in_err-opened : goal.returns-in_err-opened
returns-in_err-opened c = let p = err_from_is_err_and c.from_residual.result c.from_residual.ensures.1 in
    rw (p.1, p.2) (record { same = c.open_file.ensures.same; answer = answer-refused c.args.file.now (length c.args.work.now) (length c.args.out.now) (sym c.open_file.ensures.answer ∙ c.in_err-opened.was); output = refl })

-- the answer of the automaton
pub returns : goal.returns
returns c = record { same = c.open_file.ensures.same; answer = c.write_result.ensures.answer ∙ answer-open c.args.file.now (length c.args.work.now) (length c.args.out.now) (sym c.open_file.ensures.answer ∙ c.in_ok-opened.was); output = c.write_result.ensures.output }

pub write_result-requires : goal.write_result-requires
write_result-requires c = held (goal.at.write_result-requires c).In_ok-opened
