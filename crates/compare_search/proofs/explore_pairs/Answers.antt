-- `compare_search::explore_pairs` meets its contract: with empty chains the pair of the empty word becomes pair 0, and the rest follows from it.
use native.Mathlib.Omega.{arith}
use mathlib.Core.Path.{ap, subst}
use Prim.Native.Nat.{◌≤◌}
use lib.ListN.{length}
use Rattle.word_fields.specs.Frame.{Kept}
use Rattle.word_fields.proofs.Laws.{chain-start, kept_then, kept-wider}
use Rattle.word_layout.specs.Layout.{first_block, pair_table}
use Rattle.word_layout.specs.declared.SetTable.{SetTable}
use Rattle.live_table.specs.Entries.{begin}
use Rattle.live_table.specs.SetRows.{Added}
use Rattle.live_letters.proofs.Laws.{table-start}
use Rattle.compare_search.proofs.BlockFrames.{both-kept, ready-kept, tabled, two_sets}
use Rattle.compare_search.proofs.FirstPair.{first-pair}
use Rattle.compare_search.proofs.explore_pairs.Goals as goal
use Rattle.compare_search.proofs.explore_pairs.Goals.{After-add_row, After-fill}

pub overflow_add-t : goal.overflow_add-t
overflow_add-t c = omega (arith, ap (λ (t : SetTable). t.index) c.pair_table-t.ensures)

pub fill-requires : goal.fill-requires
fill-requires c = omega (arith, ap (λ (t : SetTable). t.index) c.pair_table-t.ensures, c.requires.long)

-- emptying the chains writes below the blocks
filled : (f : goal.After-fill) → Kept 0 first_block f.args.w.now f.fill.new.w
filled f = let e = ap (λ (t : SetTable). t.index) f.pair_table-t.ensures in kept-wider (omega arith) (omega (arith, e)) f.fill.ensures.kept

pub add_row-requires : goal.add_row-requires
add_row-requires c = let long : 8192 ≤ length c.fill.new.w = omega (arith, c.fill.ensures.kept.long, c.requires.long) in (omega arith, ((omega arith, omega arith), (two_sets c.pair_table-t.ensures, (tabled long c.pair_table-t.ensures, chain-start _ _ _ _ _ (λ i h. c.fill.ensures.set i (omega arith))))))

-- the first pair, in the table of pairs
added : (d : goal.After-add_row) → Added pair_table d.fill.new.w d.add_row.new.w 0 d.start_set-u.result d.start_set-v.result 0
added d = subst (λ (t : SetTable). Added t d.fill.new.w d.add_row.new.w 0 d.start_set-u.result d.start_set-v.result 0) d.pair_table-t.ensures d.add_row.ensures

pub explore_from-requires : goal.explore_from-requires
explore_from-requires c = record { ready = ready-kept (kept_then (filled (goal.at.explore_from-requires c).After-fill) (kept-wider (omega arith) (omega arith) (added (goal.at.explore_from-requires c).After-add_row).kept)) c.requires; table = table-start c.args.a (added (goal.at.explore_from-requires c).After-add_row) }

pub returns : goal.returns
returns c = let m : Kept 0 first_block c.fill.new.w c.add_row.new.w = kept-wider (omega arith) (omega arith) (added (goal.at.returns c).After-add_row).kept in record {
  kept = kept_then (filled (goal.at.returns c).After-fill) (kept_then m c.explore_from.ensures.kept);
  grows = c.explore_from.ensures.grows;
  meets = λ s t b. let g = both-kept (filled (goal.at.returns c).After-fill) c.requires b in
      c.explore_from.ensures.meets s t (begin s t) (both-kept m (ready-kept (filled (goal.at.returns c).After-fill) c.requires) g) (first-pair s t g c.start_set-u.ensures c.start_set-v.ensures (added (goal.at.returns c).After-add_row));
}
