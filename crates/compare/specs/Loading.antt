-- Loading: what the words hold of an automaton that is loaded, and of two that are ready to be compared, by the table's face.
use Rattle.std.specs.Prelude.{◌≡◌, List, Err, None, Ok, Option, Result, Some, ◌≤◌, ℕ, length}
use Rattle.automata.specs.Automaton.{Automaton, letters}
use Rattle.automata.specs.Unfolding.{configurations, final_set, plain_arcs}
use Rattle.automata.specs.Words.{SameLetters}
use Rattle.file_fields.specs.declared.Reason.{Reason}
use Rattle.format.specs.Refusals.{unless_refused}
use Rattle.word_sets.specs.Sets.{view}
use Rattle.table_sets.specs.Stepping.{Tells}
use Rattle.compare_promise.specs.Comparing.{limit_refusals}
use Rattle.compare.specs.declared.loading.Standing.{Standing}

-- the block tells the plain arcs of x between its configurations, numbered up to L of them, by a list, and the set is that of its final ones
pub record Prepared (x : Automaton) (L : ℕ) (w : List ℕ) (s : Standing) : Type 0 where
  pub many : s.block.count ≡ length (configurations x L)
  pub few : s.block.plain ≤ 2048
  pub tells : Tells (letters x) (plain_arcs x L) w s.block
  pub final : view s.block.count s.finals ≡ final_set x (configurations x L)

-- the reason for which x is refused by its limits, if there is one
abbrev pub limit_of : (L M : ℕ) → Automaton → Option Reason
limit_of L M x = unless_refused (λ why whose. Some why) (limit_refusals L M x None) None

-- what loading x answers: x is within its limits, and stands in the block from `base` on; or the reason for which it is refused
abbrev pub Loads : (x : Automaton) (M : ℕ) (w : List ℕ) (base : ℕ) → Result Standing Reason → Type 0
Loads x M w base (Ok s) = (None ≡ limit_of 256 M x) × (s.block.base ≡ base) × Prepared x 256 w s
Loads x M w base (Err why) = Some why ≡ limit_of 256 M x

-- two automata with the same letters are ready to be compared
pub record Comparable (x y : Automaton) (L : ℕ) (w : List ℕ) (one two : Standing) (letters : List ℕ) : Type 0 where
  pub first : Prepared x L w one
  pub second : Prepared y L w two
  pub shared : SameLetters x y
  pub spelled : letters ≡ x.alphabet
