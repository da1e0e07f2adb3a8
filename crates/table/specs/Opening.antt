-- Opening: the refusals that membership and unfolding begin with (document 01, the order of refusals), and what is in the words once a file is
-- open.
use Rattle.std.specs.Prelude.{◌≡◌, List, [], ◌∷◌, ◌≤◌, ℕ, ltb, length, Err, None, Ok, Result, Some}
use Rattle.automata.specs.Unfolding.{configurations, plain_arcs}
use Rattle.file_fields.specs.Parts.{counts_of}
use Rattle.file_fields.specs.declared.Counts.{Counts}
use Rattle.file_fields.specs.declared.Automaton.TheVariants.{First}
use Rattle.file_fields.specs.declared.Reason.TheVariants.{TooLittleMemoryLent, TooManyConfigurations}
use Rattle.file_fields.specs.declared.Refusal.{Refusal}
use Rattle.format.specs.Decoding.{automaton_of}
use Rattle.format.specs.Reading.{reading_of}
use Rattle.format.specs.Refusals.{Refusals, fault_of, reason_of, refused, unless_refused}
use Rattle.word_layout.specs.Layout.{Placed, first_block}
use Rattle.word_layout.specs.declared.Block.{Block}
use Rattle.table_operations.specs.Arcs.{Indexed, Linked}
use Rattle.table_explore.specs.Explores.{Explores}
use Rattle.table.specs.declared.Opened.{Opened}

-- the refusals in their order: 24, fewer than 8,192 working words; the file's fault; 21, more than L configurations
unfoldable pub open_refusals : (L : ℕ) (file : List ℕ) (words : ℕ) → Refusals
open_refusals L file words =
    (ltb words 8192, TooLittleMemoryLent, None)
    ∷ (ltb 0 (fault_of file), reason_of file, Some First)
    ∷ (ltb L (length (configurations (automaton_of file) L)), TooManyConfigurations, Some First)
    ∷ []

-- the first block, of a file whose automaton has at most L configurations
abbrev pub block_of : (L : ℕ) (file : List ℕ) → Block
block_of L file = record { base = first_block; count = length (configurations (automaton_of file) L); plain = length (plain_arcs (automaton_of file) L) }

-- the answer of a file that is open: its counts and the block of its automaton
abbrev pub opened_as : Counts → Block → Result Opened Refusal
opened_as c block = Ok (record { counts = c; block = block })

-- the answer of opening, at document 01's limit: the first refusal, or the counts of the file and the block of its automaton
unfoldable pub opened_of : (file : List ℕ) (words : ℕ) → Result Opened Refusal
unfolding open_refusals unless_refused
opened_of file words = unless_refused refused (open_refusals 256 file words) (opened_as (counts_of file) (block_of 256 file))

-- the file is valid and has the counts c, and the block holds its automaton: its configurations, its plain arcs where they fit, and its
-- rows, not closed yet. Callers take it whole: what they need of it is in proofs/Laws.antt
pub record Holds (file : List ℕ) (c : Counts) (w : List ℕ) (block : Block) : Type 0 where
  pub valid : reading_of file ≡ Ok c
  pub enough : 8192 ≤ length w
  pub first : block.base ≡ first_block
  pub placed : Placed w block.base
  pub indexed : Indexed c file w
  pub linked : Linked c file w
  pub explored : Explores (automaton_of file) 256 w block.base (Some (record { count = block.count; plain = block.plain }))

-- what opening leaves in the words, by its answer: nothing is said of them where the file is refused
abbrev pub HeldBy : (file w : List ℕ) → Result Opened Refusal → Type 0
HeldBy file w (Err r) = Unit {0}
HeldBy file w (Ok o) = Holds file o.counts w o.block
