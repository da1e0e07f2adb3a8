-- Lettered: the listed plain arcs of a block found by their letter and source. Each is in the chain of the two, and each letter has the set of
-- the configurations that its arcs leave.
use Rattle.std.specs.Prelude.{◌≡◌, cond, List, ℕ, zero, suc, ◌*◌, ◌+◌, ◌≤◌, ◌<◌, T, leb, ltb, length}
use Rattle.word_layout.specs.Layout.{block_end, letter_heads, letter_heads_end, letter_nexts, letter_sources, lettered_end}
use Rattle.word_layout.specs.declared.Block.{Block}
use Rattle.word_fields.specs.Chains.{Chain}
use Rattle.word_rows.specs.Rows.{related}
use Rattle.table_sets.specs.Stepping.{BySource, plain_letter_at, start_at, target_at}

-- the row of an arc with this letter's byte, of so many letters: 0 where it is none of them, as of an empty move
unfoldable pub row_of : (letters byte : ℕ) → ℕ
row_of letters byte = cond (ltb byte letters) (byte + 1) 0

-- the last of the first n configurations whose listed arcs start at arc k or before it
unfoldable pub last_start : List ℕ → (base k n : ℕ) → ℕ
unfolding start_at
last_start w base k zero = 0
last_start w base k (suc n) = cond (leb (start_at w base n) k) n (last_start w base k n)

-- the source of listed arc k
abbrev pub source_of : List ℕ → Block → ℕ → ℕ
source_of w block k = last_start w block.base k block.count

-- the key of a row and a source, by which the arcs of both are chained
abbrev pub key_of : (row source : ℕ) → ℕ
key_of row source = 256 * row + source

-- the key of listed arc k
unfoldable pub arc_key : (letters : ℕ) → List ℕ → Block → ℕ → ℕ
unfolding row_of last_start
arc_key letters w block k = key_of (row_of letters (plain_letter_at w block.base k)) (source_of w block k)

-- the first n listed arcs are in the chains of their keys, and their sources in the sets of their letters
pub record Linked (letters : ℕ) (w : List ℕ) (block : Block) (n : ℕ) : Type 0 where
  pub chain : Chain (arc_key letters w block) w letter_heads letter_nexts (256 * letters + 256) n
  pub noted : (k : ℕ) → k < n → T (related w letter_sources (row_of letters (plain_letter_at w block.base k)) (source_of w block k))

-- all listed arcs are, and what else the words of a block ask for that the chains can be followed; of so many letters
pub record Lettered (letters : ℕ) (w : List ℕ) (block : Block) : Type 0 where
  pub small : letters ≤ 64
  pub few : block.plain ≤ 2048
  pub below : letter_heads_end ≤ block.base
  pub above : block_end block.base ≤ letter_nexts
  pub room : lettered_end ≤ length w
  pub listed : BySource w block
  pub linked : Linked letters w block block.plain

-- one of the listed arcs with this key has j in the row of its target
pub record Leading (letters : ℕ) (w : List ℕ) (block : Block) (key j : ℕ) : Type 0 where
  pub at : ℕ
  pub below : at < block.plain
  pub keyed : arc_key letters w block at ≡ key
  pub leads : T (related w block.base (target_at w block.base at) j)
