use native.Mathlib.Omega.{arith}
use mathlib.Core.Path.{refl, subst}
use lib.Dec.{T}
use Rattle.word_fields.proofs.Laws.{Looked-end, Looked-more}
use Rattle.live_table.specs.SetRows.{first_set, last_set}
use Rattle.live_table.proofs.AddRow.{same_key_lem}
use Rattle.live_table.proofs.find_row.Goals as goal

-- the row at g is none of what is looked for: on to the next of the chain
pub loop-g-smaller : goal.loop-g-smaller
loop-g-smaller g c = (Looked-more c.requires.1.1 (omega arith) (same_key_lem c.args.t c.args.w.now (first_set c.args.sets) (last_set c.args.sets)) c.loop-g-test.true (λ d. subst T c.if-is_row.false (c.is_row.ensures.1 d))
    c.get16-g-in-loop-g.ensures.0 c.loop-g.invariant).1

pub loop-g-preserved : goal.loop-g-preserved
loop-g-preserved g c = (Looked-more c.requires.1.1 (omega arith) (same_key_lem c.args.t c.args.w.now (first_set c.args.sets) (last_set c.args.sets)) c.loop-g-test.true (λ d. subst T c.if-is_row.false (c.is_row.ensures.1 d))
    c.get16-g-in-loop-g.ensures.0 c.loop-g.invariant).0

pub returns : goal.returns
returns g c = (Looked-end c.requires.1.1 (omega arith) (same_key_lem c.args.t c.args.w.now (first_set c.args.sets) (last_set c.args.sets)) c.loop-g-test.false c.loop-g.invariant).miss refl
