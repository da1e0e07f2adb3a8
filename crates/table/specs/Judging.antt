-- Judging: an automaton that words can be judged by, as preparing leaves it in the words. Callers take it whole.
use Rattle.std.specs.Prelude.{◌≡◌, List, ℕ, ◌<◌, ◌≤◌, length, Err, Ok, Result}
use Rattle.automata.specs.Unfolding.{configurations, final_set, plain_arcs}
use Rattle.file_fields.specs.Parts.{letter_bytes}
use Rattle.file_fields.specs.declared.Counts.{Counts}
use Rattle.file_fields.specs.declared.Refusal.{Refusal}
use Rattle.format.specs.Decoding.{automaton_of}
use Rattle.format.specs.Reading.{reading_of}
use Rattle.word_layout.specs.Layout.{final_row, first_block, first_sets}
use Rattle.word_layout.specs.declared.Block.{Block}
use Rattle.word_sets.specs.Sets.{Within, view}
use Rattle.word_rows.specs.Rows.{row}
use Rattle.table_letters.specs.Lettered.{Lettered}
use Rattle.table_live.specs.Steps.{LetterNumbers, Outgoing, Steppable, live_bytes}
use Rattle.table.specs.Built.{Built}
use Rattle.table.specs.Opening.{block_of, opened_as, opened_of}
use Rattle.table.specs.declared.Opened.{Opened}

-- the file is valid and has the counts c, and its automaton is built: the block tells its plain arcs, the final configurations and the numbers
-- of the letters stand in the words; and the arcs are found by letter and source where they are listed, else a step can be taken by the file
pub record Judging (file : List ℕ) (c : Counts) (w : List ℕ) (block : Block) : Type 0 where
  pub valid : reading_of file ≡ Ok c
  pub enough : 8192 ≤ length w
  pub first : block.base ≡ first_block
  pub built : Built (automaton_of file) 256 w block
  pub finals : view block.count (row w final_row 0) ≡ final_set (automaton_of file) (configurations (automaton_of file) 256)
  pub numbers : LetterNumbers (letter_bytes c file) w
  pub lettered : block.plain ≤ 2048 → Lettered c.letters w block
  pub filed : 2048 < block.plain → Steppable file c w block first_sets × Outgoing file c w block (plain_arcs (automaton_of file) 256)

-- `set` is the live set of the word, by the automaton of the file
pub record Live (file word w : List ℕ) (block : Block) (set : List ℕ) : Type 0 where
  pub inside : Within block.count set
  pub is : view block.count set ≡ live_bytes (automaton_of file).alphabet (plain_arcs (automaton_of file) 256) block.count (view block.count (row w block.base 0)) word

-- what preparing leaves, by its answer: the refusals are those of opening the file
abbrev pub PreparedBy : (file : List ℕ) (words : ℕ) (w : List ℕ) → Result Opened Refusal → Type 0
PreparedBy file words w (Err r) = opened_of file words ≡ Err r
PreparedBy file words w (Ok o) = (opened_of file words ≡ opened_as o.counts (block_of 256 file)) × Judging file o.counts w o.block
