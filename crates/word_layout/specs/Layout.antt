-- Layout: where everything stands in the 8,192 lent words, each place once. What an automaton's building, a step and comparing write lies
-- below the blocks, so that one statement about what is kept keeps both automata. Where the live sets of one automaton are met, what a
-- search writes is one stretch of words above the building's tables and the block. The code has the same places by the same names
-- (src/lib.rt).
use Rattle.std.specs.Prelude.{◌≡◌, ◌⊎◌, List, ℕ, ◌*◌, ◌+◌, ◌≤◌, length}
use Rattle.word_layout.specs.declared.SetTable.{SetTable}

-- ---- the tables of the building, of one automaton at a time
-- the place of each arc in the file, 2,048 fields: arc i of m in field m - 1 - i, so that a chain, which falls, is in file order
abbrev pub offsets : ℕ
offsets = 2048

-- the chains of arcs by from-state: 2,048 next fields and 256 heads
abbrev pub arc_nexts : ℕ
arc_nexts = 2560

-- of those chains the heads, a field for each state
abbrev pub arc_heads : ℕ
arc_heads = 3072

-- the configurations, 256 words, and the chains that find them: 509 heads and 256 next fields
abbrev pub configs : ℕ
configs = 3136

-- of those chains the heads
abbrev pub config_heads : ℕ
config_heads = 3392

-- and the next fields, one for each configuration
abbrev pub config_nexts : ℕ
config_nexts = 3520

-- behind the building's tables
abbrev pub map_end : ℕ
map_end = 3584

-- ---- a table of live sets: 512 rows of one set or of two, four words each, from the word `rows` on; then its index, which has, in fields of
-- 16 bits, the parent of each row and the letter by which it was met, and the chains by which rows are found
-- the parents: parent times 64 plus letter, a field for each row
abbrev pub parents_at : SetTable → ℕ
parents_at t = t.index

-- the chains by which rows are found, 509 heads and 512 next fields: of those the heads
abbrev pub heads_at : SetTable → ℕ
heads_at t = t.index + 128

-- and the next fields
abbrev pub nexts_at : SetTable → ℕ
nexts_at t = t.index + 256

-- behind the table
abbrev pub table_end : SetTable → ℕ
table_end t = t.index + 384

-- the words are there; a row has one set or two, and the rows end before the index
pub record Tabled (w : List ℕ) (t : SetTable) : Type 0 where
  pub one_or_two : (t.sets ≡ 1) ⊎ (t.sets ≡ 2)
  pub before : t.rows + 4 * (t.sets * 512) ≤ t.index
  pub long : table_end t ≤ length w

-- the table of comparing: pairs of live sets, from word 0 on and up to the sets of the letters. They take the place of the building's
-- tables, which are not needed once both automata are built
abbrev pub pair_table : SetTable
pair_table = record { rows = 0; sets = 2; index = 4096 }

-- ---- the live sets of all letters that a step leaves, 64 rows: of the first automaton, or the only one, and of the second
-- of the first, or the only one
abbrev pub first_sets : ℕ
first_sets = 4480

-- of the second
abbrev pub second_sets : ℕ
second_sets = 4736

-- ---- the blocks: of the first automaton, or the only one, and of the second
-- of the first, or the only one
abbrev pub first_block : ℕ
first_block = 4992

-- of the second, behind the first
abbrev pub second_block : ℕ
second_block = 6592

-- a block: 256 rows of four words, 2,048 plain arcs in fields of 16 bits, by source, and in 256 fields where the plain arcs of each
-- source start
abbrev pub arcs_at : ℕ → ℕ
arcs_at base = base + 1024

-- where its fields begin that say where the plain arcs of each source start
abbrev pub starts_at : ℕ → ℕ
starts_at base = base + 1536

-- behind the block
abbrev pub block_end : ℕ → ℕ
block_end base = base + 1600

-- a plain arc in its field: its letter's byte and its target
abbrev pub packed_arc : (letter target : ℕ) → ℕ
packed_arc letter target = letter * 256 + target

-- the words are there, and the block stands above the building's tables
pub record Placed (w : List ℕ) (base : ℕ) : Type 0 where
  pub above : map_end ≤ base
  pub block : block_end base ≤ length w

-- ---- words judged by the only automaton where all its plain arcs are listed: the listed arcs by their letter and source. First the heads of
-- their chains, 256 fields for the arcs that have no letter and 256 for each letter, a field for each source. They take the place of the
-- building's tables, which are not needed any more
abbrev pub letter_heads : ℕ
letter_heads = 0

-- behind the heads of 64 letters
abbrev pub letter_heads_end : ℕ
letter_heads_end = 4160

-- the chains' next fields, one for each listed arc, in the place of the second block, which comparing alone needs
abbrev pub letter_nexts : ℕ
letter_nexts = second_block

-- the configurations that the arcs with no letter leave, and those that the arcs with each letter leave: 65 rows
abbrev pub letter_sources : ℕ
letter_sources = letter_nexts + 512

-- the number of the letter that each byte stands for, a field for each byte that a letter can have as its key
abbrev pub byte_letters : ℕ
byte_letters = letter_sources + 260

-- behind these
abbrev pub lettered_end : ℕ
lettered_end = byte_letters + 64

-- the set of the final configurations, one row
abbrev pub final_row : ℕ
final_row = lettered_end

-- ---- a call on one automaton whose live sets are met: what is made of them stands below the building's tables, then the block, then the
-- table of live sets, then the sets of the letters
-- where words are counted: how many words of one length lead from each live set to one that is accepted, 512 words
abbrev pub counts : ℕ
counts = 0

-- the same of the length that is counted next
abbrev pub next_counts : ℕ
next_counts = 512

-- the numbers of the live sets that the letters lead to, 4,096 fields, up to the building's tables
abbrev pub targets : ℕ
targets = 1024

-- the block, right behind the building's tables
abbrev pub only_block : ℕ
only_block = map_end

-- the live sets, 512 rows of four words, right behind the block
abbrev pub set_rows : ℕ
set_rows = block_end only_block

-- the index of the rows, 384 words, up to the sets of the letters
abbrev pub set_index : ℕ
set_index = 7232

-- the sets of the letters that a step leaves, 64 rows
abbrev pub letter_sets : ℕ
letter_sets = 7616

-- the table of live sets, one set to a row
abbrev pub set_table : SetTable
set_table = record { rows = set_rows; sets = 1; index = set_index }

-- where a word has ranges: the live sets before a place, 512 rows of four words, up to the building's tables. They are walked in their order
-- and not looked up, so the index is that of the sets behind the place
abbrev pub before_table : SetTable
before_table = record { rows = 0; sets = 1; index = set_index }
