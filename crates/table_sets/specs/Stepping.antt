-- Stepping: what the words of a block stand for once its rows are closed, and the live sets of all letters that a step leaves.
-- Where a block has its rows, its plain arcs and their starts is said in crate word_layout, specs/Layout.antt.
use Rattle.std.specs.Prelude.{◌≡◌, ◌↔◌, ◌⊎◌, cond, ℕ, ◌+◌, ◌/◌, ◌%◌, ◌≤◌, ◌<◌, T, ltb, length}
use mathlib.Core.List.{List, [], ◌∷◌, Memᴰ}
use Rattle.std.proofs.Math.Option.{some}
use Rattle.automata.specs.Automaton.{Run}
use Rattle.automata.specs.Live.{Moves, PlainArc}
use Rattle.word_layout.specs.Layout.{arcs_at, block_end, starts_at}
use Rattle.word_layout.specs.declared.Block.{Block}
use Rattle.word_fields.specs.Fields.{field}
use Rattle.word_sets.specs.Sets.{bit}
use Rattle.word_rows.specs.Rows.{related, row}

-- the set of letter l: row l from acc on where the mask `met` has l, else the empty set
unfoldable pub set_of : List ℕ → ℕ → ℕ → ℕ → List ℕ
unfolding bit row
set_of w acc met l = cond (bit met l) (row w acc l) (0 ∷ 0 ∷ 0 ∷ 0 ∷ [])

-- where the listed arcs of configuration c start
unfoldable pub start_at : List ℕ → ℕ → ℕ → ℕ
unfolding field
start_at w base c = field w (starts_at base) c

-- where they end, of `count` configurations and `plain` arcs
unfoldable pub end_at : List ℕ → ℕ → ℕ → ℕ → ℕ → ℕ
unfolding start_at
end_at w base count plain c = cond (ltb (c + 1) count) (start_at w base (c + 1)) plain

-- the letter's byte of listed arc k
abbrev pub plain_letter_at : List ℕ → (base k : ℕ) → ℕ
plain_letter_at w base k = field w (arcs_at base) k / 256

-- its target
abbrev pub target_at : List ℕ → (base k : ℕ) → ℕ
target_at w base k = field w (arcs_at base) k % 256

-- among the arcs listed from `from` to before `to` one with letter l has j in the row of its target
pub record Among (w : List ℕ) (base from to l j : ℕ) : Type 0 where
  pub at : ℕ
  pub low : from ≤ at
  pub high : at < to
  pub letter : plain_letter_at w base at ≡ l
  pub leads : T (related w base (target_at w base at) j)

-- what is listed of configuration s by letter l leads to j, of `count` configurations and `plain` arcs
abbrev pub FromList : List ℕ → ℕ → ℕ → ℕ → ℕ → ℕ → ℕ → Type 0
FromList w base count plain s l j = Among w base (start_at w base s) (end_at w base count plain s) l j

-- a plain arc of s with letter l, and then a run of empty moves, lead to j
abbrev pub Reached : List PlainArc → ℕ → ℕ → ℕ → Type 0
Reached arcs s l j = (t : ℕ) × Moves arcs s (some l) t × Run (Moves arcs) t [] j

-- `From` tells the plain arcs of n configurations to every set that no empty move leaves: it leads nowhere that they do not, and where
-- they lead from s, it leads from s or from a configuration that empty moves lead to from s
pub record Held (n letters : ℕ) (arcs : List PlainArc) (From : ℕ → ℕ → ℕ → Type 0) : Type 0 where
  pub within : (a : PlainArc) → Memᴰ a arcs → a.target < n
  pub sound : (s l j : ℕ) → s < n → l < letters → From s l j → Reached arcs s l j
  pub full : (s l j : ℕ) → s < n → l < letters → Reached arcs s l j → (d : ℕ) × Run (Moves arcs) s [] d × From d l j

-- ---- what a step asks of the words, whatever they stand for
-- the block and the 64 rows from acc on are there, and share no word
pub record Room (w : List ℕ) (base acc : ℕ) : Type 0 where
  pub block : block_end base ≤ length w
  pub rows : acc + 256 ≤ length w
  pub apart : (acc + 256 ≤ base) ⊎ (block_end base ≤ acc)

-- the starts and the end of the listed arcs are places of the list, from 0 on, and they rise
pub record Starts (w : List ℕ) (base count plain : ℕ) : Type 0 where
  pub few : count ≤ 256
  pub less : plain ≤ 2048
  pub zero : 0 < count → start_at w base 0 ≡ 0
  pub each : (c : ℕ) → c < count → start_at w base c ≤ plain
  pub rises : (c : ℕ) → c < count → start_at w base c ≤ end_at w base count plain c

-- ---- a block whose rows are closed, by what it stands for. Crates above the table take `Tells` whole: what they need of it is in
-- proofs/Laws.antt, and what a step makes of it in the step's contract
-- the arcs of a block are listed by their sources
abbrev pub BySource : List ℕ → Block → Type 0
BySource w block = Starts w block.base block.count block.plain

-- the block tells these plain arcs of its configurations, of which configuration 0 is one: row i has what runs of empty moves lead to from
-- i; and where all arcs are listed, they are by their sources, and the list tells where letters lead
pub record Tells (letters : ℕ) (arcs : List PlainArc) (w : List ℕ) (block : Block) : Type 0 where
  pub some : 0 < block.count
  pub few : block.count ≤ 256
  pub within : (a : PlainArc) → Memᴰ a arcs → a.target < block.count
  pub rows : (i j : ℕ) → i < block.count → T (related w block.base i j) ↔ Run (Moves arcs) i [] j
  pub listed : block.plain ≤ 2048 → BySource w block
  pub held : block.plain ≤ 2048 → Held block.count letters arcs (FromList w block.base block.count block.plain)
