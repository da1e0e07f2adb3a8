-- `table::prepare` meets its contract: what opening refuses it refuses, and an open file is made ready (Opening).
use mathlib.Core.Path.{◌∙◌, subst, sym}
use Rattle.std.proofs.lemmas.Result.{err_from_is_err_and}
use Rattle.table.specs.Opening.{HeldBy, Holds}
use Rattle.table.proofs.Opening.{holds-block}
use Rattle.table.proofs.prepare.Goals as goal
use Rattle.table.proofs.prepare.Goals.{In_ok-opened}

-- the block of the open file
held : (c : goal.In_ok-opened) → Holds c.args.file.now c.in_ok-opened.opened.counts c.open_file.new.work c.in_ok-opened.opened.block
held c = subst (HeldBy c.args.file.now c.open_file.new.work) c.in_ok-opened.was c.open_file.ensures.block

pub make_ready-block-requires : goal.make_ready-block-requires
make_ready-block-requires c = held (goal.at.make_ready-block-requires c).In_ok-opened

-- the file is refused
pub returns-in_err-opened : goal.returns-in_err-opened
returns-in_err-opened c = let p = err_from_is_err_and c.from_residual.result c.from_residual.ensures.1 in
    rw (p.1, p.2) (record { same = c.open_file.ensures.same; ready = sym c.open_file.ensures.answer ∙ c.in_err-opened.was })

-- it is ready
pub returns : goal.returns
returns c = record { same = c.make_ready-block.ensures.same ∙ c.open_file.ensures.same; ready = (sym c.open_file.ensures.answer ∙ c.in_ok-opened.was ∙ holds-block (held (goal.at.returns c).In_ok-opened), c.make_ready-block.ensures.ready) }
