-- `table_sets::into` meets its contract. In both arms what is stored is the union of the letter's set, empty where it is not
-- met, and of the row.
use mathlib.Core.Path.{◌∙◌, ap, sym}
use mathlib.Core.Bool.{Bool, ◌||◌}
use native.Mathlib.Omega.{arith}
use Rattle.word_sets.specs.Sets.{in_set}
use Rattle.word_sets.proofs.Laws.{empty-set}
use Rattle.table_sets.proofs.LetterSets.{joined, met-off, met-on, set-off, set_on}
use Rattle.table_sets.proofs.into.Goals as goal

pub returns-then-met-l-eq0 : goal.returns-then-met-l-eq0
returns-then-met-l-eq0 c = let off = met-off c.args.met c.args.l (omega arith) c.if-met-l-eq0.true in record {
  kept = c.store.ensures.kept;
  set = joined c.args.base c.args.acc c.args.l c.args.t c.args.met (omega arith) (set-off c.args.w.now c.args.acc c.args.met c.args.l off) c.load-new.ensures
      (λ j. sym (ap (λ (b : Bool). b || in_set c.load-new.result j) (empty-set j))) c.store.ensures.kept c.store.ensures.set;
}

pub returns-else-met-l-eq0 : goal.returns-else-met-l-eq0
returns-else-met-l-eq0 c = let on = met-on c.args.met c.args.l (omega arith) c.if-met-l-eq0.false in record { kept = c.store-else-met-l-eq0.ensures.kept; set = joined c.args.base c.args.acc c.args.l c.args.t c.args.met (omega arith) (c.load.ensures ∙ set_on c.args.w.now c.args.acc c.args.met c.args.l on) c.load-new.ensures c.union.ensures c.store-else-met-l-eq0.ensures.kept c.store-else-met-l-eq0.ensures.set }
