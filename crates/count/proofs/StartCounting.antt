-- StartCounting: an automaton that stands in its block is ready for its live sets to be explored; what exploring them answers is said of its
-- live sets, and words can be counted by them.
use Rattle.std.proofs.Common.{Option, Some, None}
use mathlib.Core.Path.{◌∙◌, ◌≡◌, ap, refl, subst, sym}
use mathlib.Core.Logic.{inr}
use mathlib.Core.Bool.{Bool}
use mathlib.Core.List.{List, []}
use Prim.Native.Nat.{◌+◌, ◌<◌, ◌≤◌, ℕ}
use native.Mathlib.Omega.{arith}
use lib.ListN.{length}
use Rattle.automata.specs.Automaton.{Automaton}
use Rattle.automata.specs.Live.{PlainArc, by_letter, live}
use Rattle.automata.specs.LiveSets.{behind, live_sets, same_set}
use Rattle.automata.specs.Search.{met}
use Rattle.automata.specs.Unfolding.{configurations, live_set, plain_arcs}
use Rattle.file_fields.specs.declared.Counts.{Counts}
use Rattle.format.specs.Decoding.{automaton_of}
use Rattle.word_fields.specs.Frame.{Kept}
use Rattle.word_sets.specs.Sets.{view, ε_closed_set}
use Rattle.word_layout.specs.Layout.{letter_sets, only_block, set_table}
use Rattle.word_layout.specs.declared.Block.{Block}
use Rattle.word_layout.specs.declared.SetTable.{SetTable}
use Rattle.table.specs.Standing.{Stands}
use Rattle.table.proofs.Laws.{letters-are, stands-many, stands-numbered, stands-steps}
use Rattle.table_live.specs.Steps.{Outgoing}
use Rattle.live_letters.specs.Meeting.{Grows}
use Rattle.live_search.specs.Exploring.{Searchable, SetsOutcome}
use Rattle.live_building.proofs.Laws.{only_kept, step_room, tabled}
use Rattle.count_targets.specs.Counting.{Counting, sets_of}

module _ {file : List ℕ} {c : Counts} {w : List ℕ} {block : Block} (h : Stands file c w block) (only : block.base ≡ only_block) (enough : 8192 ≤ length w) where
  abbrev x : Automaton
  x = automaton_of file

  pub searchable : Searchable file c w block set_table letter_sets
  searchable = record {
    steps = stands-steps h (step_room only enough);
    one = refl;
    tabled = tabled {w = w} (omega arith);
    above_tables = omega arith;
    above_block = omega arith;
    behind = omega arith;
  }

  -- the sets that words lead to from that of the empty word are the live sets
  module _ (S : List Bool) (starts : S ≡ live block.count (plain_arcs x 256) []) where
    sets-are : met same_set (by_letter block.count (plain_arcs x 256)) c.letters S 512 ≡ sets_of file
    unfolding sets_of live_sets live_set behind
    sets-are =
        ap (λ (R : List Bool). met same_set (by_letter block.count (plain_arcs x 256)) c.letters R 512) starts
        ∙ ap (λ (n : ℕ). met same_set (by_letter n (plain_arcs x 256)) c.letters (live n (plain_arcs x 256) []) 512) (stands-many h)
        ∙ ap (λ (a : ℕ). met same_set (by_letter (length (configurations x 256)) (plain_arcs x 256)) a (live (length (configurations x 256)) (plain_arcs x 256) []) 512)
        (sym (letters-are file c (stands-numbered h).valid))

    module _ (w' : List ℕ) (r : Option ℕ) (o : SetsOutcome 512 block.count (plain_arcs x 256) set_table w' (met same_set (by_letter block.count (plain_arcs x 256)) c.letters S 512) r) where
      outcome : SetsOutcome 512 block.count (plain_arcs x 256) set_table w' (sets_of file) r
      outcome = subst (λ (sets : List (List Bool)). SetsOutcome 512 block.count (plain_arcs x 256) set_table w' sets r) sets-are o

      pub sets_over : r ≡ None → 512 < length (live_sets x 256 (live_set x 256 []) 512)
      unfolding sets_of
      sets_over e = subst (λ (r : Option ℕ). SetsOutcome 512 block.count (plain_arcs x 256) set_table w' (sets_of file) r) e outcome

      pub counting : {n : ℕ} → r ≡ Some n → Kept set_table.rows (letter_sets + 256) w w' → Grows c.letters set_table w' 1 r → Counting file c w' block n
      counting {n} e k g = record {
        stands = only_kept h only (inr (omega arith)) k;
        only = only;
        enough = omega (arith, k.long);
        rows = (subst (λ (r : Option ℕ). Grows c.letters set_table w' 1 r) e g).1;
        sets = subst (λ (r : Option ℕ). SetsOutcome 512 block.count (plain_arcs x 256) set_table w' (sets_of file) r) e outcome;
      }

-- what exploring the live sets, into a table, tells
abbrev pub Explored : (file : List ℕ) (c : Counts) (w : List ℕ) (block : Block) (start w' : List ℕ) (r : Option ℕ) → SetTable → Type 0
Explored file c w block start w' r t =
    Kept t.rows (letter_sets + 256) w w' × (Grows c.letters t w' 1 r × ((arcs : List PlainArc) → Outgoing file c w block arcs → ε_closed_set block.count arcs start
    → SetsOutcome 512 block.count arcs t w' (met same_set (by_letter block.count arcs) c.letters (view block.count start) 512) r))

-- no more live sets than rows
pub sets-few : {file : List ℕ} {c : Counts} {w : List ℕ} {block : Block} {n : ℕ} → Counting file c w block n → length (live_sets (automaton_of file) 256 (live_set (automaton_of file) 256 []) 512) ≤ 512
unfolding sets_of
sets-few k = subst (λ (m : ℕ). m ≤ 512) (sym k.sets.many) k.rows.few
