-- Explores: what exploring answers and leaves in the words, said of the automaton (document 01, 'Unfolding').
use Rattle.std.specs.Prelude.{◌≡◌, ◌↔◌, ◌⊎◌, ◌<◌, ◌≤◌, ℕ, T, ltb, drop, length, take, cond, List, map, Option, None, Some}
use Rattle.std.proofs.Math.Option.{none}
use Rattle.automata.specs.Automaton.{Automaton}
use Rattle.automata.specs.Live.{Moves}
use Rattle.automata.specs.Unfolding.{configurations, plain_all, plain_arcs}
use Rattle.word_layout.specs.Layout.{arcs_at, configs, starts_at}
use Rattle.table_operations.specs.Packed.{pack}
use Rattle.table_configurations.specs.Tables.{Configured, fields_of, listed}
use Rattle.table_configurations.specs.declared.Sizes.{Sizes}
use Rattle.word_fields.specs.Fields.{field}
use Rattle.word_rows.specs.Rows.{related}

-- more than L configurations, or how many there are and how many plain arcs
unfoldable pub explored_of : Automaton → ℕ → Option Sizes
unfolding configurations plain_arcs
explored_of x L = cond (ltb L (length (configurations x L))) None (Some (record { count = length (configurations x L); plain = length (plain_arcs x L) }))

-- where the plain arcs of configuration s start: how many there are of those before it
unfoldable pub start_of : Automaton → ℕ → ℕ → ℕ
unfolding plain_all configurations
start_of x L s = length (plain_all x (configurations x L) 0 (take s (configurations x L)))

-- the words of a block whose walk has ended, its rows not closed yet
pub record Walked (x : Automaton) (L : ℕ) (w : List ℕ) (base count plain : ℕ) : Type 0 where
  pub configured : Configured w count
  pub table : take count (drop configs w) ≡ map pack (configurations x L)
  pub arcs : plain ≤ 2048 → fields_of w (arcs_at base) plain ≡ map listed (plain_arcs x L)
  pub starts : plain ≤ 2048 → (s : ℕ) → s < count → field w (starts_at base) s ≡ start_of x L s
  pub rows : (i j : ℕ) → i < count → T (related w base i j) ↔ ((j ≡ i) ⊎ Moves (plain_arcs x L) i none j)

-- the words once the walk has answered: nothing is said of them where there are too many configurations
abbrev pub WalkedAs : Automaton → ℕ → List ℕ → ℕ → Option Sizes → Type 0
WalkedAs x L w base None = Unit {0}
WalkedAs x L w base (Some s) = Walked x L w base s.count s.plain

-- what exploring x answers and leaves in the block from `base` on
pub record Explores (x : Automaton) (L : ℕ) (w : List ℕ) (base : ℕ) (r : Option Sizes) : Type 0 where
  pub answer : r ≡ explored_of x L
  pub block : WalkedAs x L w base r
