-- Promised: what is promised of counting the words of one length (document 02, change 2, with the exact condition of each refusal).
-- Words and configurations are those of runs; live sets (23) are document 01's, over numbered configurations, and `one_set` says by runs
-- when two words have one. Nothing here is the contract's but `Told`: a contract that says less does not give this promise. And a promise
-- that says less leaves something open, which proofs/Settled.antt rules out.
use Rattle.std.specs.Prelude.{◌≡◌, ◌↔◌, ◌⊎◌, ◌≢◌, List, [], ◌∷◌, ℕ, ◌+◌, ◌^◌, ◌<◌, ◌≤◌}
use Rattle.automata.specs.Automaton.{Reachable, SameEnds, letters}
use Rattle.automata.specs.Counting.{Exactly, MoreThan}
use Rattle.automata.specs.Lengths.{AcceptedOf, RejectedOf}
use Rattle.automata.specs.LiveSets.{SetAfter}
use Rattle.automata.specs.Unfolding.{live_set}
use Rattle.format.specs.Decoding.{automaton_of}
use Rattle.format.specs.Refusals.{FirstHolds, fault_of}
use Rattle.count_promise.specs.WordCounts.{Told}

-- the refusals in their order: a condition, the number, and the automaton at fault. Words of every length count for 23: the live sets are
-- those of the empty word and some letters more
abbrev pub conditions : (file : List ℕ) (size words : ℕ) → List (Type 0 × ℕ × ℕ)
conditions file size words =
    (words < 8192, 24, 0)
    ∷ (0 < fault_of file, fault_of file, 1)
    ∷ ((64 < size) ⊎ (18446744073709551615 < letters (automaton_of file) ^ size), 31, 0)
    ∷ (MoreThan (Reachable (automaton_of file)) 256, 21, 1)
    ∷ (MoreThan (SetAfter (automaton_of file) 256 []) 512, 23, 0)
    ∷ []

-- where the words are counted: the lent memory has its stated size; the file is valid; the length is at most 64, and the number of all
-- words of that length has 64 bits; the automaton unfolds within 256 configurations; words of its letters have at most 512 live sets
pub record Premises (file : List ℕ) (size words : ℕ) : Type 0 where
  pub enough_words : 8192 ≤ words
  pub valid : fault_of file ≡ 0
  pub short : size ≤ 64
  pub countable : letters (automaton_of file) ^ size ≤ 18446744073709551615
  pub few_configurations : ¬ MoreThan (Reachable (automaton_of file)) 256
  pub few_sets : ¬ MoreThan (SetAfter (automaton_of file) 256 []) 512

-- what is promised of a file, a length, a number of working words, and the answer as it is told
pub record Promised (file : List ℕ) (size words : ℕ) (t : Told) : Type 0 where
  -- nothing is refused just under the premises
  pub answers : (t.number ≡ 0) ↔ Premises file size words
  -- the numbers are those of the words of that length that are accepted, and that are not; two runs that spell one word count once
  pub accepted : Premises file size words → Exactly (AcceptedOf (automaton_of file) size) t.accepted
  pub rejected : Premises file size words → Exactly (RejectedOf (automaton_of file) size) t.rejected
  -- together they are all words of that length
  pub total : Premises file size words → t.accepted + t.rejected ≡ letters (automaton_of file) ^ size
  -- where live sets are counted, that is where 21 does not hold, two words have one just if runs that spell them end in the same configurations
  pub one_set : ¬ MoreThan (Reachable (automaton_of file)) 256 → (v w : List ℕ) → (live_set (automaton_of file) 256 v ≡ live_set (automaton_of file) 256 w) ↔ SameEnds (automaton_of file) v w
  -- each refusal has its number and its automaton at fault just where its condition is the first that holds; where none holds, both are 0
  pub refuses : (n b : ℕ) → ((t.number ≡ n) × (t.at_fault ≡ b)) ↔ FirstHolds (conditions file size words) n b
  -- where counting is refused, no words are told
  pub none_told : t.number ≢ 0 → (t.accepted ≡ 0) × (t.rejected ≡ 0)
