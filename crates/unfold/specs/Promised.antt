-- Promised: what is promised of unfolding (demand 2, and the exact condition of each refusal). Words and languages are those of runs; the
-- unfolded automaton and its plain arcs (22, 25) are document 01's, over numbered configurations. Nothing here is the contract's but
-- `Told`.
use Rattle.std.specs.Prelude.{◌≡◌, ◌↔◌, ◌≢◌, List, [], ◌∷◌, ◌<◌, ◌≤◌, ℕ, drop, take}
use Rattle.std.proofs.Math.ListN.{length}
use Rattle.automata.specs.Automaton.{Reachable}
use Rattle.automata.specs.Counting.{MoreThan}
use Rattle.automata.specs.Unfolding.{plain_arcs, unfolded}
use Rattle.automata.specs.Words.{Language}
use Rattle.format.specs.Decoding.{automaton_of}
use Rattle.format.specs.Encoding.{bytes_of}
use Rattle.format.specs.Refusals.{FirstHolds, fault_of}
use Rattle.file_writing.specs.Answers.{Told}

-- document 01's refusals in their order: a condition, the number, and the automaton at fault
abbrev pub conditions : (file : List ℕ) (words space : ℕ) → List (Type 0 × ℕ × ℕ)
conditions file words space =
    (words < 8192, 24, 0)
    ∷ (0 < fault_of file, fault_of file, 1)
    ∷ (MoreThan (Reachable (automaton_of file)) 256, 21, 1)
    ∷ (2048 < length (plain_arcs (automaton_of file) 256), 22, 1)
    ∷ (space < length (bytes_of (unfolded (automaton_of file) 256)), 25, 0)
    ∷ []

-- nothing is refused: the working words are enough, the file has no fault, its automaton reaches at most 256 configurations and has at
-- most 2,048 plain arcs, and the output has room for the result
pub record Answered (file : List ℕ) (words space : ℕ) : Type 0 where
  pub enough : 8192 ≤ words
  pub valid : fault_of file ≡ 0
  pub few : ¬ MoreThan (Reachable (automaton_of file)) 256
  pub few_arcs : length (plain_arcs (automaton_of file) 256) ≤ 2048
  pub room : length (bytes_of (unfolded (automaton_of file) 256)) ≤ space

-- what is promised of the bytes written
pub record Unfolds (file result : List ℕ) : Type 0 where
  -- they are a valid file of the unfolded automaton, which has one register, in which only the symbol 0 can stand
  pub valid : fault_of result ≡ 0
  pub automaton : automaton_of result ≡ unfolded (automaton_of file) 256
  pub one_register : (automaton_of result).registers ≡ 1
  pub one_symbol : (automaton_of result).symbols ≡ 1
  -- it accepts exactly the words, of every length, that the automaton handed in accepts: by runs on both sides
  pub same_words : (word : List ℕ) → Language (automaton_of result) word ↔ Language (automaton_of file) word
  -- with working words enough, nothing is refused of the file written where there is room for as many bytes, and unfolding it gives the
  -- same bytes
  pub again : (words space : ℕ) → 8192 ≤ words → length result ≤ space → Answered result words space
  pub same_bytes : bytes_of (unfolded (automaton_of result) 256) ≡ result

-- what is promised of an answer, told in document 01's terms, and of the output, which was `old` and is `out`
pub record Promised (file : List ℕ) (words : ℕ) (old out : List ℕ) (t : Told) : Type 0 where
  -- where nothing is refused, the length told is that of the unfolded file, which stands at the front of the output, and the bytes behind
  -- it are as lent
  pub size : t.number ≡ 0 → t.size ≡ length (bytes_of (unfolded (automaton_of file) 256))
  pub written : t.number ≡ 0 → Unfolds file (take t.size out)
  pub behind : t.number ≡ 0 → drop t.size out ≡ drop t.size old
  -- a refusal leaves the output as it was lent, and tells no length
  pub untouched : t.number ≢ 0 → out ≡ old
  pub sizeless : t.number ≢ 0 → t.size ≡ 0
  -- the number is 0 just where nothing is to be refused
  pub none : (t.number ≡ 0) ↔ Answered file words (length old)
  -- each refusal has its number and its automaton at fault just where its condition is the first that holds; where none holds, both are 0
  pub refuses : (n b : ℕ) → ((t.number ≡ n) × (t.at_fault ≡ b)) ↔ FirstHolds (conditions file words (length old)) n b
