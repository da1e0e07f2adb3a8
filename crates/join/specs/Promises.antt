-- Promises: what is promised of a call that joins files, told of the bytes lent and the bytes left (document 01, 'Joining books' and
-- both 'Refused' sections; over which letters, document 02, change 6). A word is a list of bytes of any length; that it is accepted is
-- document 003's (automata's specs/Words.antt), by the letters of the file itself.
use Rattle.std.specs.Prelude.{◌≡◌, ◌↔◌, ◌≢◌, ◌<◌, ◌≤◌, ℕ, drop, length, take}
use mathlib.Core.List.{List, Memᴰ, [], ◌∷◌}
use Rattle.automata.specs.Automaton.{Arc, Automaton, states}
use Rattle.automata.specs.Joins.{closure}
use Rattle.automata.specs.Languages.{Star}
use Rattle.automata.specs.Words.{Language}
use Rattle.format.specs.Decoding.{automaton_of}
use Rattle.format.specs.Encoding.{bytes_of}
use Rattle.format.specs.Refusals.{FirstHolds, fault_of}
use Rattle.file_writing.specs.Answers.{Told}
use Rattle.file_pair.specs.Pair.{letters_of}
use Rattle.join_parts.specs.Joining.{join_of}

-- ---- the joined automaton x, the bytes that it is to list as its letters, the words that it is to accept, and the output before the call
-- and after it
-- beyond a limit on s, n, m or p
pub data Beyond (x : Automaton) : Type 0 where
  many_states : 256 < states x → Beyond x
  many_registers : 8 < x.registers → Beyond x
  many_arcs : 2048 < length x.arcs → Beyond x
  many_operations : (a : Arc) → Memᴰ a x.arcs → 8 < length a.ops → Beyond x

-- the first n bytes of the output are a valid file of x, which lists these bytes and accepts exactly the words named; those behind are as
-- lent
pub record FileOf (x : Automaton) (listed : List ℕ) (Words : List ℕ → Type 0) (n : ℕ) (old out : List ℕ) : Type 0 where
  pub there : length (take n out) ≡ n
  pub valid : fault_of (take n out) ≡ 0
  pub automaton : automaton_of (take n out) ≡ x
  pub letters : (automaton_of (take n out)).alphabet ≡ listed
  pub accepts : (word : List ℕ) → Language (automaton_of (take n out)) word ↔ Words word
  pub behind : drop n out ≡ drop n old

-- ---- document 01's refusals in their order: a condition, the number, and the automaton at fault
-- of two files, joined as x
abbrev pub join_conditions : (first second : List ℕ) → Automaton → (space : ℕ) → List (Type 0 × ℕ × ℕ)
join_conditions first second x space =
    (0 < fault_of first, fault_of first, 1)
    ∷ (0 < fault_of second, fault_of second, 2)
    ∷ (64 < length (letters_of first second), 11, 0)
    ∷ (Beyond x, 11, 0)
    ∷ (space < length (bytes_of x), 25, 0)
    ∷ []

-- of one file, closed as x
abbrev pub close_conditions : (file : List ℕ) → Automaton → (space : ℕ) → List (Type 0 × ℕ × ℕ)
close_conditions file x space =
    (0 < fault_of file, fault_of file, 1)
    ∷ (Beyond x, 11, 0)
    ∷ (space < length (bytes_of x), 25, 0)
    ∷ []

-- ---- what is promised of a call with these conditions; `Ready`: no file is at fault, and the letters are not too many
-- the joined automaton is x, it is to list the bytes `listed` and to accept the words `Words`, the output was `old` and is `out`
pub record Promised (conditions : List (Type 0 × ℕ × ℕ)) (Ready : Type 0) (x : Automaton) (listed : List ℕ) (Words : List ℕ → Type 0) (old out : List ℕ) (t : Told) : Type 0 where
  -- where nothing is refused, the file is there, and its length is told
  pub size : t.number ≡ 0 → t.size ≡ length (bytes_of x)
  pub file : t.number ≡ 0 → FileOf x listed Words t.size old out
  -- a refusal leaves the output as it was lent, and tells no length
  pub unchanged : t.number ≢ 0 → out ≡ old
  pub sizeless : t.number ≢ 0 → t.size ≡ 0
  -- the number is 0 just where nothing is to be refused
  pub none : (t.number ≡ 0) ↔ (Ready × (¬ Beyond x) × (length (bytes_of x) ≤ length old))
  -- each refusal has its number and its automaton at fault just where its condition is the first that holds; where none holds, both are 0
  pub refuses : (n b : ℕ) → ((t.number ≡ n) × (t.at_fault ≡ b)) ↔ FirstHolds conditions n b

-- both files are valid, and have at most 64 letters together
pub record ValidPair (first second : List ℕ) : Type 0 where
  pub first_valid : fault_of first ≡ 0
  pub second_valid : fault_of second ≡ 0
  pub few_letters : length (letters_of first second) ≤ 64

-- of a call that joins two files by `join`, which is to list the letters of both and to accept the words `Words` of their languages
abbrev pub JoinPromised : (join : Automaton → Automaton → Automaton) (Words : (P Q : List ℕ → Type 0) → List ℕ → Type 0) (first second old out : List ℕ) → Told → Type 0
JoinPromised join Words first second old out t =
    let x = join_of join first second in
    Promised (join_conditions first second x (length old)) (ValidPair first second) x (letters_of first second) (Words (Language (automaton_of first)) (Language (automaton_of second))) old out t

-- of the call that closes one file: the result lists its bytes, and accepts the finite sequences of its words
abbrev pub ClosurePromised : (file old out : List ℕ) → Told → Type 0
ClosurePromised file old out t =
    let x = closure (automaton_of file) in
    Promised (close_conditions file x (length old)) (fault_of file ≡ 0) x (automaton_of file).alphabet (Star (Language (automaton_of file))) old out t
