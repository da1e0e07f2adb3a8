-- `table_prune::ahead` meets its contract: the configuration whose arcs are visited stands in the row of c (ahead-covered).
use mathlib.Core.Path.{subst}
use mathlib.Core.List.{List}
use native.Mathlib.Omega.{arith}
use lib.Dec.{T}
use Rattle.word_fields.proofs.Laws.{kept_same}
use Rattle.word_rows.specs.Rows.{related}
use Rattle.word_sets.specs.Sets.{in_set}
use Rattle.table_sets.proofs.Laws.{end-few, none-met}
use Rattle.table_prune.proofs.PruneAll.{ahead-covered}
use Rattle.table_prune.proofs.ahead.Goals as goal

pub load-requires : goal.load-requires
load-requires c = omega (arith, c.requires.0, c.requires.1.0.block)

pub first_arc-from-requires : goal.first_arc-from-requires
first_arc-from-requires c = omega (arith, c.if-d-c.true, c.requires.0, c.requires.1.0.block)

pub end_of-to-requires : goal.end_of-to-requires
end_of-to-requires c = (c.if-d-c.true, (c.requires.1.1.few, c.requires.1.0.block))

pub visit-requires : goal.visit-requires
visit-requires c = (omega (arith, c.end_of-to.ensures, end-few c.next_live-d.result c.requires.1.1), c.requires.1.0)

pub returns-then-d-c : goal.returns-then-d-c
unfolding related
returns-then-d-c c = record { kept = c.visit.ensures.kept; covered = ahead-covered c.visit.result c.requires.1.0 c.requires.1.1 c.requires.0 c.if-d-c.true (subst (λ (u : List _). T (in_set u c.next_live-d.result)) c.load.ensures (c.next_live-d.ensures.member (omega (arith, c.requires.0)))) c.first_arc-from.ensures c.end_of-to.ensures c.visit.ensures.kept c.visit.ensures.set }

pub returns : goal.returns
returns c = record { kept = kept_same _ _ _; covered = λ p j l t. absurd (subst T (none-met c.args.w.now c.args.acc p j) t) }
