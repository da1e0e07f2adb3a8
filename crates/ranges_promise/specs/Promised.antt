-- Promised: what is promised of a word with ranges (document 02, change 7, with the exact condition of each refusal). A filling is a word of
-- letter numbers; whether it is accepted, and configurations, are those of runs; live sets (23) are document 01's, over numbered
-- configurations, and `one_set` says by runs when two words have one. Nothing here is the contract's but `Told` and
-- `ranges_of`, and what the latter makes of the bytes is said by `placed`: a contract that says less does not give this promise. And a promise that says less leaves something open, which proofs/Settled.antt rules out.
use Rattle.std.specs.Prelude.{◌≡◌, ◌↔◌, ◌⊎◌, ℕ, ◌%◌, ◌<◌, ◌≤◌, T, length}
use mathlib.Core.List.{List, Memᴰ, [], ◌∷◌}
use Rattle.automata.specs.Automaton.{Accepts, Automaton, Reachable, SameEnds, letters}
use Rattle.automata.specs.Counting.{MoreThan}
use Rattle.automata.specs.Unfolding.{live_set}
use Rattle.fillings.specs.Fillings.{Fills, ManyFilled, Range}
use Rattle.format.specs.Decoding.{automaton_of}
use Rattle.format.specs.Refusals.{FirstHolds, fault_of}
use Rattle.ranges_promise.specs.RangeAnswers.{Told, ranges_of}

-- a single byte is left over, or at some place low is above high or high is not below a
abbrev pub BadRanges : (a : ℕ) → List ℕ → Type 0
BadRanges a bytes = (length bytes % 2 ≡ 1) ⊎ ((r : Range) × Memᴰ r (ranges_of bytes) × ((r.high < r.low) ⊎ (a ≤ r.high)))

-- the refusals in their order: a condition, the number, and the automaton at fault. For 23 each place counts for itself, with all fillings of
-- the places up to it, whatever follows
abbrev pub conditions : (file bytes : List ℕ) (words : ℕ) → List (Type 0 × ℕ × ℕ)
conditions file bytes words =
    (words < 8192, 24, 0)
    ∷ (0 < fault_of file, fault_of file, 1)
    ∷ (BadRanges (letters (automaton_of file)) bytes, 35, 0)
    ∷ (MoreThan (Reachable (automaton_of file)) 256, 21, 1)
    ∷ (ManyFilled (automaton_of file) 256 512 (ranges_of bytes), 23, 0)
    ∷ []

-- where the word is judged: the lent memory has its stated size; the file is valid; each place has a low that is not above its high and a
-- high that is a letter, and no byte is left over; the automaton unfolds within 256 configurations; behind each place there are at most 512
-- live sets
pub record Premises (file bytes : List ℕ) (words : ℕ) : Type 0 where
  pub enough_words : 8192 ≤ words
  pub valid : fault_of file ≡ 0
  pub sound : ¬ BadRanges (letters (automaton_of file)) bytes
  pub few_configurations : ¬ MoreThan (Reachable (automaton_of file)) 256
  pub few_sets : ¬ ManyFilled (automaton_of file) 256 512 (ranges_of bytes)

-- places written down: two bytes each, low then high
abbrev pub bytes_of : List Range → List ℕ
bytes_of [] = []
bytes_of (r ∷ rs) = r.low ∷ r.high ∷ bytes_of rs

-- a filling of the places that x accepts, and one that it does not
pub record AcceptedFilling (x : Automaton) (rs : List Range) : Type 0 where
  pub word : List ℕ
  pub fills : Fills rs word
  pub accepts : Accepts x word

pub record RejectedFilling (x : Automaton) (rs : List Range) : Type 0 where
  pub word : List ℕ
  pub fills : Fills rs word
  pub rejects : ¬ Accepts x word

-- what is promised of a file, the bytes of a word with ranges, a number of working words, and the answer as it is told
pub record Promised (file bytes : List ℕ) (words : ℕ) (t : Told) : Type 0 where
  -- nothing is refused just under the premises
  pub answers : (t.number ≡ 0) ↔ Premises file bytes words
  -- the places are those of the bytes: written down they are the bytes again
  pub placed : Premises file bytes words → bytes_of (ranges_of bytes) ≡ bytes
  -- always just if every filling is accepted, never just if none is, sometimes otherwise
  pub always : T t.always ↔ (Premises file bytes words × ((word : List ℕ) → Fills (ranges_of bytes) word → Accepts (automaton_of file) word))
  pub never : T t.never ↔ (Premises file bytes words × ((word : List ℕ) → Fills (ranges_of bytes) word → ¬ Accepts (automaton_of file) word))
  pub sometimes : T t.sometimes ↔ (Premises file bytes words × AcceptedFilling (automaton_of file) (ranges_of bytes) × RejectedFilling (automaton_of file) (ranges_of bytes))
  -- there is a filling, so that no two of the three are told; with no places the empty word is the only one, so that sometimes is not
  pub fillable : Premises file bytes words → (word : List ℕ) × Fills (ranges_of bytes) word
  -- where live sets are counted, that is where 21 does not hold, two words have the same one just if runs that spell them end in the
  -- same configurations
  pub one_set : ¬ MoreThan (Reachable (automaton_of file)) 256 → (v w : List ℕ) → (live_set (automaton_of file) 256 v ≡ live_set (automaton_of file) 256 w) ↔ SameEnds (automaton_of file) v w
  -- each refusal has its number and its automaton at fault just where its condition is the first that holds; where none holds, both are 0
  pub refuses : (n b : ℕ) → ((t.number ≡ n) × (t.at_fault ≡ b)) ↔ FirstHolds (conditions file bytes words) n b
