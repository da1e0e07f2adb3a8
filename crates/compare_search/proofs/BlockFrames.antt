-- BlockFrames: what is written below the blocks leaves the automata as they are; and the table of pairs stands in its place.
use mathlib.Core.Path.{◌≡◌, ap, refl, subst, sym}
use mathlib.Core.Logic.{inl, inr}
use mathlib.Core.List.{List, [], ◌∷◌}
use Prim.Native.Nat.{◌≤◌, ℕ}
use native.Mathlib.Omega.{arith}
use lib.ListN.{length}
use Rattle.word_fields.specs.Frame.{Kept}
use Rattle.table_sets.specs.Stepping.{Room}
use Rattle.table_sets.proofs.Laws.{SameBlock, block-kept, starts-kept, tells-kept}
use Rattle.word_layout.specs.Layout.{Tabled, first_block, first_sets, pair_table, second_sets}
use Rattle.word_layout.specs.declared.Block.{Block}
use Rattle.word_layout.specs.declared.SetTable.{SetTable}
use Rattle.live_table.specs.Entries.{Side}
use Rattle.live_letters.specs.Meeting.{LetterRoom}
use Rattle.live_letters.proofs.Laws.{two-room}
use Rattle.compare_search.specs.Searching.{Both, Ready}

-- ---- the blocks
module _ {a : ℕ} {w w' : List ℕ} {one two : Block} (k : Kept 0 first_block w w') (r : Ready a w one two) where
  first-kept : SameBlock one.base w w'
  first-kept = block-kept k (inl (omega (arith, r.first)))

  second-kept : SameBlock two.base w w'
  second-kept = block-kept k (inl (omega (arith, r.second)))

  pub ready-kept : Ready a w' one two
  ready-kept = record {
    long = omega (arith, k.long, r.long);
    few = r.few;
    first = r.first;
    second = r.second;
    listed₁ = starts-kept first-kept r.listed₁;
    listed₂ = starts-kept second-kept r.listed₂;
  }

  pub both-kept : {s t : Side} → Both a s t w one two → Both a s t w' one two
  both-kept b = record { size₁ = b.size₁; size₂ = b.size₂; tells₁ = tells-kept first-kept b.tells₁; tells₂ = tells-kept second-kept b.tells₂ }

-- what the steps ask
pub room-first : {a : ℕ} {w : List ℕ} {one two : Block} → Ready a w one two → Room w one.base first_sets
room-first r = record { block = omega (arith, r.long, r.first); rows = omega (arith, r.long); apart = inl (omega (arith, r.first)) }

pub room-second : {a : ℕ} {w : List ℕ} {one two : Block} → Ready a w one two → Room w two.base second_sets
room-second r = record { block = omega (arith, r.long, r.second); rows = omega (arith, r.long); apart = inl (omega (arith, r.second)) }

-- ---- the table of pairs, and the sets of the letters behind it
module _ {w : List ℕ} {tab : SetTable} (long : 8192 ≤ length w) (e : tab ≡ pair_table) where
  pub tabled : Tabled w tab
  tabled = subst (λ (t : SetTable). Tabled w t) (sym e) (record { one_or_two = inr refl; before = omega arith; long = omega arith })

  pub letter-room : LetterRoom tab w (first_sets ∷ second_sets ∷ [])
  letter-room = subst (λ (t : SetTable). LetterRoom t w (first_sets ∷ second_sets ∷ [])) (sym e) (two-room (omega arith) (omega arith) (omega arith) (omega arith))

-- a row has two sets
pub two_sets : {tab : SetTable} → tab ≡ pair_table → tab.sets ≡ 2
two_sets e = ap (λ (t : SetTable). t.sets) e
