-- `table_sets::set_of` meets its contract: the test of the mask is the definition's.
use mathlib.Core.Path.{◌∙◌}
use native.Mathlib.Omega.{arith}
use Rattle.table_sets.proofs.LetterSets.{met-off, met-on, set-off, set_on}
use Rattle.table_sets.proofs.set_of.Goals as goal

pub returns-then-met-l-ne0 : goal.returns-then-met-l-ne0
returns-then-met-l-ne0 c = c.load.ensures ∙ set_on c.args.w.now c.args.acc c.args.met c.args.l (met-on c.args.met c.args.l (omega arith) c.if-met-l-ne0.true)

pub returns-else-met-l-ne0 : goal.returns-else-met-l-ne0
returns-else-met-l-ne0 c = set-off c.args.w.now c.args.acc c.args.met c.args.l (met-off c.args.met c.args.l (omega arith) c.if-met-l-ne0.false)
