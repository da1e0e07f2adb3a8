-- Steps: what a step asks of the words, what tells it the plain arcs, and the live set of a word of bytes (document 01, 'Runs and slips').
use Rattle.std.specs.Prelude.{◌≡◌, Bool, false, List, ℕ, ◌<◌, ◌≤◌, get_or, length}
use Rattle.automata.specs.Letters.{key}
use Rattle.automata.specs.Live.{PlainArc, live_from, table}
use Rattle.automata.specs.Unfolding.{spelled_or}
use Rattle.automata.specs.Words.{spelling}
use Rattle.file_fields.specs.declared.Counts.{Counts}
use Rattle.word_layout.specs.Layout.{byte_letters}
use Rattle.word_layout.specs.declared.Block.{Block}
use Rattle.word_fields.specs.Chains.{last}
use Rattle.word_fields.specs.Fields.{field}
use Rattle.table_operations.specs.Arcs.{Indexed, Linked, Walkable}
use Rattle.table_sets.specs.Stepping.{BySource, Held, Room, Tells}
use Rattle.table_file_steps.specs.FileSteps.{Findable, FromFile}

-- what a step asks of the words, whatever they stand for, whether the plain arcs are listed or not
pub record Steppable (file : List ℕ) (c : Counts) (w : List ℕ) (block : Block) (acc : ℕ) : Type 0 where
  pub room : Room w block.base acc
  pub listed : block.plain ≤ 2048 → BySource w block
  pub walkable : Walkable c file
  pub indexed : Indexed c file w
  pub linked : Linked c file w
  pub findable : Findable w block.count

-- the plain arcs are told by the block; where they are not all listed, the file tells where letters lead
pub record Outgoing (file : List ℕ) (c : Counts) (w : List ℕ) (block : Block) (arcs : List PlainArc) : Type 0 where
  pub told : Tells c.letters arcs w block
  pub filed : 2048 < block.plain → Held block.count c.letters arcs (FromFile file c w block)

-- the live set of a word of bytes, from the set S of `count` configurations on, by these plain arcs: empty where a byte is no letter
unfoldable pub live_bytes : (alphabet : List ℕ) → List PlainArc → (count : ℕ) → List Bool → (word : List ℕ) → List Bool
live_bytes alphabet arcs count S word = spelled_or (table count (λ _. false)) (live_from count arcs S) (spelling alphabet word)

-- the words tell for each key which of these letters has it, by its number; no_entry where none has
abbrev pub LetterNumbers : (alphabet w : List ℕ) → Type 0
LetterNumbers alphabet w = (b : ℕ) → b < 256 → field w byte_letters b ≡ last (λ i. key (get_or alphabet i 0)) b (length alphabet)
