-- `word_rows::store` meets its contract: the four words one by one.
use native.Mathlib.Omega.{arith}
use lib.ListN.{length-set}
use Rattle.word_sets.proofs.Laws.{four}
use Rattle.word_rows.proofs.RowLaws.{stored}
use Rattle.word_rows.proofs.store.Goals as goal

pub bounds-w-at-2 : goal.bounds-w-at-2
bounds-w-at-2 c = simp length-set (omega arith)

pub bounds-w-at-3 : goal.bounds-w-at-3
bounds-w-at-3 c = simp length-set (omega arith)

pub bounds-w-at-4 : goal.bounds-w-at-4
bounds-w-at-4 c = simp length-set (omega arith)

pub returns : goal.returns
returns c = let whole = stored c.args.w.now c.args.base c.args.i c.args.set (omega arith) (four c.args.set _ c.well_formed.1.1.1.0).long in record { kept = whole.0; set = whole.1 }
