-- ExpandOne: from one live set before a place. A step leaves the sets behind the letters, and those of the range are met in the table of live
-- sets, which stands where it did.
use Rattle.std.proofs.Common.{Option, Some, None}
use mathlib.Core.Path.{◌∙◌, ◌≡◌, refl, sym}
use mathlib.Core.Logic.{inr}
use mathlib.Core.Bool.{Bool}
use mathlib.Core.List.{List, [], ◌∷◌, map}
use Prim.Native.Nat.{◌+◌, ◌-◌, ◌<◌, ◌≤◌, ℕ}
use native.Mathlib.Omega.{arith}
use lib.ListN.{length}
use Rattle.automata.specs.Exploration.{add_all}
use Rattle.automata.specs.Lists.{count_from}
use Rattle.automata.specs.LiveSets.{behind, same_set}
use Rattle.automata.proofs.Laws.{count_from-iff, mem_each}
use Rattle.file_fields.specs.declared.Counts.{Counts}
use Rattle.word_fields.specs.Frame.{Kept}
use Rattle.word_sets.specs.Sets.{view, ε_closed_set}
use Rattle.word_rows.specs.Rows.{row}
use Rattle.word_layout.specs.Layout.{Tabled, before_table, letter_sets, set_table, table_end}
use Rattle.word_layout.specs.declared.Block.{Block}
use Rattle.word_layout.specs.declared.SetTable.{SetTable}
use Rattle.table_live.specs.Steps.{Steppable}
use Rattle.table.proofs.Laws.{stands-many, stands-outgoing, stands-steps}
use Rattle.live_table.specs.SetRows.{RowChain}
use Rattle.live_table.proofs.Laws.{left-kept, rows-kept}
use Rattle.live_letters.specs.Meeting.{LetterRoom}
use Rattle.live_letters.specs.MeetingAll.{MetAll}
use Rattle.live_letters.proofs.Laws.{MetAll-rows, one-room, step-behind}
use Rattle.live_search.proofs.Laws.{Stepped, MetAll-sets, sets_same}
use Rattle.live_building.proofs.Laws.{step_room, tabled}
use Rattle.ranges_walk.specs.Walking.{BehindPlace, Chained, LiveAt, Ready, SetsIn}
use Rattle.ranges_walk.proofs.WalkFrames.{arcs, behind_in, count, one-row}

-- ---- what is asked
pub ready-steps : {file : List ℕ} {c : Counts} {w : List ℕ} {block : Block} → Ready file c w block → Steppable file c w block letter_sets
ready-steps r = stands-steps r.stands (step_room r.only r.enough)

-- the sets of the letters can be met in the table t, which has n rows
abbrev pub Meetable : (w : List ℕ) (n : ℕ) → SetTable → Type 0
Meetable w n t = ((Tabled w t × (t.sets ≡ 1)) × LetterRoom t w (letter_sets ∷ [])) × RowChain t w n

module _ {w w' : List ℕ} {n : ℕ} (enough : 8192 ≤ length w) (few : n ≤ 512) (k : Kept letter_sets (letter_sets + 256) w w') where
  -- a step leaves the chains of the table
  pub chain-stays : RowChain set_table w n → RowChain set_table w' n
  chain-stays = rows-kept (tabled (omega arith)) k (inr (omega arith)) few

  pub meetable : RowChain set_table w n → Meetable w' n set_table
  meetable chain = (((tabled (omega (arith, k.long)), refl), one-room (omega arith) (omega (arith, k.long))), chain-stays chain)

  -- and its sets
  pub sets-stay : (file : List ℕ) {sets : List (List Bool)} → SetsIn file set_table w n sets → SetsIn file set_table w' n sets
  sets-stay file h = sets_same (λ i l. left-kept (tabled (omega arith)) k (inr (omega arith)) i (omega arith)) h

-- ---- what is left
-- the sets of the letters are met in the table t, from n rows on
abbrev pub MetIn : (sets : ℕ → List ℕ) (letters w : List ℕ) (n : ℕ) (w' : List ℕ) → Option ℕ → SetTable → Type 0
MetIn sets letters w n w' r t = Kept t.rows (table_end t) w w' × MetAll t sets sets 0 letters w n w' r

-- the rows can be found again
pub met-chained : (sets : ℕ → List ℕ) (letters w : List ℕ) (n : ℕ) (w' : List ℕ) (r : Option ℕ) → MetAll set_table sets sets 0 letters w n w' r → n ≤ 512 → RowChain set_table w n → Chained w' r
met-chained sets letters w n w' None m few chain = tt
met-chained sets letters w n w' (Some k) m few chain = MetAll-rows set_table sets sets 0 letters w n w' k m few chain

-- a step from row i, which is the live set S, leaves the sets of the letters
module _ {file : List ℕ} {c : Counts} {w : List ℕ} {block : Block} (ready : Ready file c w block) (set : List ℕ) (i : ℕ) (is : set ≡ row w 0 i) (sets : ℕ → List ℕ)
    (step : Stepped file c w block set sets) (S : List Bool) (live : LiveAt file w i S) where
  -- each is the live set behind its letter
  set-behind : (l : ℕ) → l < c.letters → (view (count file) (sets l) ≡ behind_in file S l) × ε_closed_set (count file) (arcs file) (sets l)
  unfolding behind
  set-behind l h =
      step-behind (record { size = count file; arcs = arcs file }) S l (sets l) (sym (stands-many ready.stands)) (is ∙ sym (one-row before_table refl w i)) live.0 live.1
      (λ z. step (arcs file) (stands-outgoing ready.stands) z l h)

  -- and so those of the range, met one after the other, join those that stand behind the place
  pub met-behind : {w₁ : List ℕ} {n : ℕ} (low end : ℕ) (w' : List ℕ) (r : Option ℕ) (known : List (List Bool)) → end ≤ c.letters → SetsIn file set_table w₁ n known
      → MetAll set_table sets sets 0 (count_from low (end - low)) w₁ n w' r → BehindPlace file w' (add_all same_set known (map (behind_in file S) (count_from low (end - low)))) r
  met-behind low end w' r known h held m =
      MetAll-sets sets 0 (count_from low (end - low)) w' r (behind_in file S) known refl
      (mem_each (count_from low (end - low)) (λ l q. let p = (count_from-iff low (end - low) l).0 q in set-behind l (omega (arith, p.0, p.1)))) held m
