-- `count_targets::number_of` meets its contract: what is found is the number of the letter's set, which is empty where the letter is not met.
use native.Mathlib.Omega.{arith}
use mathlib.Core.Path.{◌≡◌, refl, subst, sym}
use mathlib.Core.List.{List, [], ◌∷◌}
use Prim.Native.Nat.{◌≤◌, ℕ}
use Rattle.std.proofs.Common.{Option, unwrap_or}
use Rattle.word_layout.specs.Layout.{Tabled, letter_sets, set_table}
use Rattle.word_layout.specs.declared.SetTable.{SetTable}
use Rattle.word_sets.proofs.Laws.{Four, four}
use Rattle.table_sets.specs.Stepping.{set_of}
use Rattle.live_table.specs.SetRows.{FoundRow, RowChain}
use Rattle.live_table.proofs.Laws.{found-row}
use Rattle.live_building.proofs.Laws.{tabled}
use Rattle.count_targets.specs.Targets.{NumberOf}
use Rattle.count_targets.proofs.Numbering.{empty-four, found_number, unmet_empty}
use Rattle.count_targets.proofs.number_of.Goals as goal
use Rattle.count_targets.proofs.number_of.Goals.{After-shared_slice_known-1, Else-met-l-ne0, Start}

-- the table can be looked into
ready : (s : goal.Start) (t : SetTable) → t ≡ set_table → (s.args.n ≤ 512) × ((Tabled s.args.w.now t × (t.sets ≤ 1)) × RowChain t s.args.w.now s.args.n)
ready s t e = subst (λ (t : SetTable). (s.args.n ≤ 512) × ((Tabled s.args.w.now t × (t.sets ≤ 1)) × RowChain t s.args.w.now s.args.n)) (sym e) (s.requires.n_bound.0, ((tabled (omega (arith, s.requires.l_bound.1)), omega arith), s.requires.n_bound.1))

pub find_row-requires : goal.find_row-requires
find_row-requires c = (omega arith, ready (goal.at.find_row-requires c).Start _ c.set_table.ensures)

-- what is found in it is the number
found : (s : goal.After-shared_slice_known-1) (t : SetTable) (u : List ℕ) (o : Option ℕ) (r : ℕ) → r ≡ unwrap_or o s.args.n → t ≡ set_table → Four u → FoundRow t s.args.w.now u u s.args.n o → NumberOf s.args.w.now s.args.n u r
found s t u o r told e fu f =
    found_number (omega (arith, s.requires.l_bound.1)) s.requires.n_bound.0 (λ j. (s.shared_slice_known-1.given j).fits) fu
    (rw told (found-row set_table s.args.w.now u u s.args.n o (subst (λ (t : SetTable). FoundRow t s.args.w.now u u s.args.n o) e f)))

pub returns-then-met-l-ne0 : goal.returns-then-met-l-ne0
returns-then-met-l-ne0 c = subst (λ (u : List ℕ). NumberOf c.args.w.now c.args.n u c.unwrap_or.result) c.set_of-set.ensures
    (found (goal.at.returns-then-met-l-ne0 c).After-shared_slice_known-1 _ _ c.find_row.result _ c.unwrap_or.ensures c.set_table.ensures (four c.set_of-set.result _ c.set_of-set.type_inv) c.find_row.ensures)

-- the letter is not met
unmet : (c : goal.Else-met-l-ne0) (r : ℕ) → NumberOf c.args.w.now c.args.n (0 ∷ 0 ∷ 0 ∷ 0 ∷ []) r → NumberOf c.args.w.now c.args.n (set_of c.args.w.now letter_sets c.args.met c.args.l) r
unmet c r f = subst (λ (u : List ℕ). NumberOf c.args.w.now c.args.n u r) (unmet_empty c.args.w.now c.args.met c.args.l (omega arith) c.if-met-l-ne0.false) f

pub returns-then-none-n : goal.returns-then-none-n
returns-then-none-n c = unmet (goal.at.returns-then-none-n c).Else-met-l-ne0 _ (c.requires.empty_number c.if-none-n.true)

pub find_row-requires-2 : goal.find_row-requires-2
find_row-requires-2 c = (omega arith, ready (goal.at.find_row-requires-2 c).Start _ c.set_table-2.ensures)

pub returns : goal.returns
returns c = unmet (goal.at.returns c).Else-met-l-ne0 _ (found (goal.at.returns c).After-shared_slice_known-1 _ _ c.find_row-2.result _ c.unwrap_or-2.ensures c.set_table-2.ensures empty-four c.find_row-2.ensures)
