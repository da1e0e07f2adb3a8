-- Tables: what the words hold in the middle of the walk, said of packed configurations.
use Rattle.std.specs.Prelude.{◌≡◌, ◌↔◌, ◌⊎◌, ◌+◌, ◌<◌, ◌^◌, ◌≤◌, ℕ, T, eqb, drop, get_or, length, take, Option, None, Some}
use mathlib.Core.List.{List, Memᴰ, [], ◌++◌, ◌∷◌, map}
use Rattle.std.proofs.Math.Option as math
use Rattle.automata.specs.Exploration.{Distinct, add, add_all, number}
use Rattle.automata.specs.Lists.{count_from}
use Rattle.automata.specs.Live.{Moves, PlainArc}
use Rattle.word_layout.specs.Layout.{arcs_at, config_heads, config_nexts, configs, packed_arc}
use Rattle.table_operations.specs.Packed.{Hop, tos}
use Rattle.table_configurations.specs.Known.{plain_arc, plains_of}
use Rattle.table_configurations.specs.declared.Sizes.{Sizes}
use Rattle.format.specs.Encoding.{letter_byte}
use Rattle.word_fields.specs.Chains.{WordChain}
use Rattle.word_fields.specs.Fields.{field}
use Rattle.word_rows.specs.Rows.{related}

-- the first n fields from a place on
unfoldable pub fields_of : List ℕ → ℕ → ℕ → List ℕ
unfolding field
fields_of w at n = map (λ i. field w at i) (count_from 0 n)

-- a plain arc as it is listed, without its source, which its place says: its letter's byte and its target
abbrev pub listed : PlainArc → ℕ
listed p = packed_arc (letter_byte p.letter) p.target

-- the table of configurations has `count` words, each with a state below 256, and chains that find them
pub record Configured (w : List ℕ) (count : ℕ) : Type 0 where
  pub few : count ≤ 256
  pub small : (i : ℕ) → i < count → get_or w (configs + i) 0 < 2 ^ 40
  pub chain : WordChain w configs config_heads config_nexts count

-- `all` are the configurations met, `plains` the plain arcs: as many as fit are listed, all of them are counted, and row i holds
-- i and the targets of its empty moves
pub record Tabled (w : List ℕ) (base count plain : ℕ) (all : List ℕ) (plains : List PlainArc) : Type 0 where
  pub table : take count (drop configs w) ≡ all
  pub distinct : Distinct eqb all
  pub counted : plain ≡ length plains
  pub sources : (p : PlainArc) → Memᴰ p plains → p.source < count
  pub list : plain ≤ 2048 → fields_of w (arcs_at base) plain ≡ map listed plains
  pub rows : (i j : ℕ) → i < count → T (related w base i j) ↔ ((j ≡ i) ⊎ Moves plains i math.none j)

-- ---- contracts of the functions that take a step
-- there were `before` configurations; now there are `count`, and `plain` plain arcs, `most` at most
pub record Counted (w : List ℕ) (before most count plain : ℕ) : Type 0 where
  pub more : before ≤ count
  pub few : plain ≤ most
  pub configured : Configured w count

-- the answer holds of the words, whatever they stand for
abbrev pub Safe : List ℕ → ℕ → ℕ → Option Sizes → Type 0
Safe w before most None = Unit {0}
Safe w before most (Some s) = Counted w before most s.count s.plain

-- there are `all` configurations now, and `plains` plain arcs; or there are more than 256 configurations
abbrev pub Holds : List ℕ → ℕ → List ℕ → List PlainArc → Option Sizes → Type 0
Holds w base all plains None = 256 < length all
Holds w base all plains (Some s) = Tabled w base s.count s.plain all plains

-- a hop from configuration c by the letter α to `key` has been taken
abbrev pub Met : List ℕ → List ℕ → ℕ → ℕ → ℕ → ℕ → math.Option ℕ → ℕ → Option Sizes → Type 0
Met w w'' base count plain c α key r = (all : List ℕ) (plains : List PlainArc) → Tabled w base count plain all plains
    → Holds w'' base (add eqb all key) (plains ++ plain_arc c α (number eqb key all) ∷ []) r

-- all these hops have been taken
abbrev pub MetAll : List ℕ → List ℕ → ℕ → ℕ → ℕ → ℕ → List Hop → Option Sizes → Type 0
MetAll w w'' base count plain c hs r = (all : List ℕ) (plains : List PlainArc) → Tabled w base count plain all plains
    → Holds w'' base (add_all eqb all (tos hs)) (plains ++ plains_of c all hs) r
