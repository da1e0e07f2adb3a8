-- Promised: what is promised of membership (demand 2, and the exact condition of each refusal), with no algorithm in sight.
use Rattle.std.specs.Prelude.{◌≡◌, ◌↔◌, List, [], ◌∷◌, ◌<◌, ◌≤◌, ℕ, T}
use Rattle.automata.specs.Automaton.{Reachable}
use Rattle.automata.specs.Counting.{Exactly, MoreThan}
use Rattle.automata.specs.Words.{Language, LiveAfter}
use Rattle.format.specs.Decoding.{automaton_of}
use Rattle.format.specs.Refusals.{FirstHolds, fault_of}
use Rattle.table.specs.Membership.{Told}

-- document 01's refusals in their order: a condition, the number, and the automaton at fault
abbrev pub conditions : (file : List ℕ) (words : ℕ) → List (Type 0 × ℕ × ℕ)
conditions file words =
    (words < 8192, 24, 0)
    ∷ (0 < fault_of file, fault_of file, 1)
    ∷ (MoreThan (Reachable (automaton_of file)) 256, 21, 1)
    ∷ []

-- nothing is refused: the working words are enough, the file has no fault, and its automaton reaches at most 256 configurations
pub record Answered (file : List ℕ) (words : ℕ) : Type 0 where
  pub enough : 8192 ≤ words
  pub valid : fault_of file ≡ 0
  pub few : ¬ MoreThan (Reachable (automaton_of file)) 256

-- what is promised of an answer, told in document 01's terms
pub record Promised (file word : List ℕ) (words : ℕ) (t : Told) : Type 0 where
  -- a word is told accepted just if nothing is refused and a run spells it and ends in a final state
  pub accepts : T t.accepted ↔ (Answered file words × Language (automaton_of file) word)
  -- the number is that of the configurations that runs spelling the word end in
  pub counts : Answered file words → Exactly (LiveAfter (automaton_of file) word) t.live
  -- the number is 0 just where nothing is to be refused
  pub none : (t.number ≡ 0) ↔ Answered file words
  -- each refusal has its number and its automaton at fault just where its condition is the first that holds; where none holds, both are 0
  pub refuses : (n b : ℕ) → ((t.number ≡ n) × (t.at_fault ≡ b)) ↔ FirstHolds (conditions file words) n b
