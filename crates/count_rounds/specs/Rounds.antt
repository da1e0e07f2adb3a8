-- Rounds: the words of one length that lead from each live set to one that is accepted, counted in the words; and the sets that their letters
-- lead to, noted there.
use Rattle.std.specs.Prelude.{◌≡◌, cond, List, ℕ, ◌+◌, ◌*◌, ◌^◌, ◌≤◌, ◌<◌, get_or}
use Rattle.automata.specs.Lengths.{many_from}
use Rattle.automata.specs.Live.{meets}
use Rattle.automata.specs.LiveSets.{accepts_set, behind}
use Rattle.file_fields.specs.declared.Counts.{Counts}
use Rattle.format.specs.Decoding.{automaton_of}
use Rattle.word_sets.specs.Sets.{Within, view}
use Rattle.word_layout.specs.Layout.{counts, set_table}
use Rattle.word_layout.specs.declared.Block.{Block}
use Rattle.live_table.specs.SetRows.{left_row}
use Rattle.count_targets.specs.Counting.{Counting, Noted, set_numbered}

-- how many words of k letters lead from the live set with number i to one that is accepted, of a letters
unfoldable pub many_of : (file : List ℕ) (a k i : ℕ) → ℕ
unfolding many_from behind accepts_set set_numbered
many_of file a k i = many_from (behind (automaton_of file) 256) a (accepts_set (automaton_of file) 256) k (set_numbered file i)

-- the n words from `base` on have these numbers
pub record Counted (file : List ℕ) (a : ℕ) (w : List ℕ) (base n k : ℕ) : Type 0 where
  pub each : (i : ℕ) → i < n → get_or w (base + i) 0 ≡ many_of file a k i

-- how many words of no letters lead from a set of numbers below `count` to one with a final member
unfoldable pub ends_in : (count : ℕ) (set finals : List ℕ) → ℕ
unfolding meets view
ends_in count set finals = cond (meets (view count set) (view count finals)) 1 0

-- the n counts are these numbers of the sets of the table, whatever numbers the sets are of
abbrev pub Ended : (w : List ℕ) (n : ℕ) (finals w' : List ℕ) → Type 0
Ended w n finals w' = (count i : ℕ) → i < n → Within count (left_row set_table w i) → get_or w' (counts + i) 0 ≡ ends_in count (left_row set_table w i) finals

-- words are counted, and of the first `kept` sets the targets are noted, each in the slot of its number; there is room for one slot more
pub record Rounds (file : List ℕ) (c : Counts) (w : List ℕ) (block : Block) (n kept : ℕ) : Type 0 where
  pub counting : Counting file c w block n
  pub room : (kept + 1) * c.letters ≤ 4096
  pub noted : (i : ℕ) → i < n → i < kept → Noted file n c.letters w i i

-- all words of `size` letters are a number of 64 bits
abbrev pub Fitting : (a size : ℕ) → Type 0
Fitting a size = a ^ size ≤ 18446744073709551615

-- the n counts are those of a length below one whose words are a number of 64 bits: so is every sum of them over the letters
pub record Summing (file : List ℕ) (a : ℕ) (w : List ℕ) (n : ℕ) : Type 0 where
  pub size : ℕ
  pub fits : Fitting a size
  pub passed : ℕ
  pub below : passed < size
  pub counted : Counted file a w counts n passed
