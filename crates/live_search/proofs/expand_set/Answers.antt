-- `live_search::expand_set` meets its contract: the step leaves the set behind each letter, and then the letters are met.
use native.Mathlib.Omega.{arith}
use mathlib.Core.Logic.{inr}
use mathlib.Core.Path.{refl}
use Rattle.word_fields.proofs.Laws.{kept_then, kept-wider}
use Rattle.table_sets.specs.Stepping.{set_of}
use Rattle.live_table.proofs.Laws.{tabled-kept}
use Rattle.live_letters.proofs.Laws.{holds_kept, one-room, table_kept}
use Rattle.live_search.proofs.ExpandSet.{letters-behind}
use Rattle.live_search.proofs.expand_set.Goals as goal

pub left-set-requires : goal.left-set-requires
left-set-requires c = (omega (arith, c.requires.i_lt_from.0, c.requires.i_lt_from.1.few), c.requires.searchable.tabled)

pub step_letters-met-requires : goal.step_letters-met-requires
step_letters-met-requires c = (c.requires.searchable.steps, omega (arith, c.requires.searchable.above_tables, c.requires.searchable.tabled.before, c.requires.searchable.behind))

pub meet_letters-requires : goal.meet_letters-requires
meet_letters-requires c = (
  omega arith,
  (
    omega arith,
    (
      (c.requires.searchable.steps.walkable.letters, (omega (arith, c.requires.i_lt_from.0, c.requires.i_lt_from.1.few), c.requires.i_lt_from.1.few)),
      (
        (
          (tabled-kept c.step_letters-met.ensures.kept c.requires.searchable.tabled, c.requires.searchable.one),
          one-room c.requires.searchable.behind (omega (arith, c.step_letters-met.ensures.kept.long, c.requires.searchable.steps.room.rows)),
        ),
        (table_kept c.requires.searchable.tabled c.step_letters-met.ensures.kept (inr c.requires.searchable.behind) c.requires.i_lt_from.1).chain,
      ),
    ),
  ),
)

pub returns : goal.returns
returns c = record {
  kept = kept_then (kept-wider (omega (arith, c.requires.searchable.tabled.before, c.requires.searchable.behind)) (omega arith) c.step_letters-met.ensures.kept) (kept-wider (omega arith) (omega (arith, c.requires.searchable.behind)) c.meet_letters.ensures.kept);
  grows = c.meet_letters.ensures.grows c.requires.i_lt_from.0 (table_kept c.requires.searchable.tabled c.step_letters-met.ensures.kept (inr c.requires.searchable.behind) c.requires.i_lt_from.1);
  meets = λ u v es e b h z. c.meet_letters.ensures.entries refl u v es e
      (letters-behind (set_of c.step_letters-met.new.w c.args.acc c.step_letters-met.result) c.requires.searchable.one c.args.i c.args.from c.left-set.ensures c.step_letters-met.ensures.set u v es e b h z)
      (holds_kept c.requires.searchable.tabled c.step_letters-met.ensures.kept (inr c.requires.searchable.behind) c.requires.i_lt_from.1.few h) z;
}
