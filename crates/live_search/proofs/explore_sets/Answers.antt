-- `live_search::explore_sets` meets its contract: with empty chains the start set becomes row 0, and the rest follows from it.
use native.Mathlib.Omega.{arith}
use mathlib.Core.Path.{refl}
use Prim.Native.Nat.{◌+◌}
use Rattle.word_fields.specs.Frame.{Kept}
use Rattle.word_fields.proofs.Laws.{chain-start, kept_then, kept-wider}
use Rattle.word_sets.specs.Sets.{view}
use Rattle.live_table.proofs.Laws.{tabled-kept}
use Rattle.live_letters.proofs.Laws.{holds-start, table-start}
use Rattle.live_search.proofs.SearchFrames.{Outgoing-stays, Searchable-kept}
use Rattle.live_search.proofs.TwinRows.{sets-outcome, side}
use Rattle.live_search.proofs.explore_sets.Goals as goal
use Rattle.live_search.proofs.explore_sets.Goals.{After-add_row, After-fill}

pub overflow_add-t : goal.overflow_add-t
overflow_add-t c = omega (arith, c.requires.behind, c.requires.steps.room.rows)

pub fill-requires : goal.fill-requires
fill-requires c = omega (arith, c.requires.tabled.long)

-- emptying the chains writes into the table
filled : (f : goal.After-fill) → Kept f.args.t.rows (f.args.acc + 256) f.args.w.now f.fill.new.w
filled f = kept-wider (omega (arith, f.requires.tabled.before)) (omega (arith, f.requires.behind)) f.fill.ensures.kept

pub add_row-requires : goal.add_row-requires
add_row-requires c = (omega arith, ((omega arith, omega arith), (c.requires.one, (tabled-kept (filled (goal.at.add_row-requires c).After-fill) c.requires.tabled, chain-start _ _ _ _ _ (λ i h. c.fill.ensures.set i (omega arith))))))

-- the start set is written into the table
started : (d : goal.After-add_row) → Kept d.args.t.rows (d.args.acc + 256) d.fill.new.w d.add_row.new.w
started d = kept-wider (omega arith) (omega (arith, d.requires.behind)) d.add_row.ensures.kept

pub explore_from-requires : goal.explore_from-requires
explore_from-requires c = record { searchable = Searchable-kept c.requires (kept_then (filled (goal.at.explore_from-requires c).After-fill) (started (goal.at.explore_from-requires c).After-add_row)); table = table-start c.args.c.letters c.add_row.ensures }

pub returns : goal.returns
returns c = let k = kept_then (filled (goal.at.returns c).After-fill) (started (goal.at.returns c).After-add_row) in record {
  kept = kept_then k c.explore_from.ensures.kept;
  grows = c.explore_from.ensures.grows;
  meets = λ arcs o z. let S = view c.args.block.count c.args.start in
      let one = side c.args.block.count arcs c.args.c.letters S 512 in
      sets-outcome c.args.block.count arcs c.args.c.letters S 512 c.args.t c.explore_from.new.w c.explore_from.result
      (c.explore_from.ensures.meets one one (record { left = S; right = S }) (record { size = refl; told = Outgoing-stays c.requires k o; twin = refl })
      (holds-start one one (record { left = S; right = S }) (refl, z) (refl, z) c.add_row.ensures));
}
