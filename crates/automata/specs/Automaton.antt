-- Automaton: finite-state registered automata, and what it means that one accepts a word.
-- Renders document 003, section 3.1 (automaton, configuration, produces, run, accepts), with document 01's
-- reading: a run needs no final state at its end, and no operation of a well-formed automaton changes register 0. No algorithm stands
-- here.
use Rattle.std.specs.Prelude.{◌≡◌, ◌↔◌, ◌≢◌, ℕ, zero, suc, ◌<◌, Bool, true, length, replicate}
use mathlib.Core.List.{List, [], ◌∷◌, Memᴰ}
use Rattle.std.proofs.Math.Option.{Option, none, some}
use Rattle.std.proofs.Math.ListN.{get_elem?}
use Rattle.automata.specs.Counting.{Apart}
use Rattle.automata.specs.Letters.{keys}

-- an operation on a register: (R, i, γ) or (W, i, γ)
pub data Op : Type 0 where
  reads writes : (register symbol : ℕ) → Op

-- an arc; its letter is a number, or none for an empty move (ε)
pub record Arc : Type 0 where
  pub source : ℕ
  pub letter : Option ℕ
  pub target : ℕ
  pub ops : List Op

-- document 01's book. States are the numbers below the length of `finals`, and state 0 is initial; letter k is the one that
-- the byte at place k of `alphabet` stands for (Letters.antt); register symbols are the numbers below `symbols`, and symbol 0 is document 003's #.
pub record Automaton : Type 0 where
  pub alphabet : List ℕ
  pub registers : ℕ
  pub symbols : ℕ
  pub finals : List Bool
  pub arcs : List Arc

-- how many states there are
abbrev pub states : Automaton → ℕ
states x = length x.finals

-- how many letters there are
abbrev pub letters : Automaton → ℕ
letters x = length x.alphabet

-- a state, and the symbol that each register contains
pub record Configuration : Type 0 where
  pub state : ℕ
  pub contents : List ℕ

-- state 0, all registers empty
abbrev pub start : Automaton → Configuration
start x = record { state = 0; contents = replicate x.registers 0 }

-- one operation leads from the contents u to the contents v
abbrev pub Does : Op → List ℕ → List ℕ → Type 0
Does (reads i γ) u v = (u ≡ v) × (get_elem? u i ≡ some γ)
Does (writes i γ) u v = (length v ≡ length u) × (get_elem? v i ≡ some γ) × ((k : ℕ) → k ≢ i → get_elem? v k ≡ get_elem? u k)

-- operations lead from u to v, each in its turn
abbrev pub DoesAll : List Op → List ℕ → List ℕ → Type 0
DoesAll [] u v = u ≡ v
DoesAll (o ∷ os) u v = (w : List ℕ) × Does o u w × DoesAll os w v

-- the configuration c produces the configuration d by the letter α, or by ε
pub record Produces (x : Automaton) (c : Configuration) (α : Option ℕ) (d : Configuration) : Type 0 where
  pub arc : Arc
  pub listed : Memᴰ arc x.arcs
  pub leaves : arc.source ≡ c.state
  pub spells : arc.letter ≡ α
  pub enters : arc.target ≡ d.state
  pub does : DoesAll arc.ops c.contents d.contents

-- a chain of moves that spells a word, none at all included; it may end anywhere
pub data Run {X : Type 0} (Moves : X → Option ℕ → X → Type 0) : X → List ℕ → X → Type 0 where
  stay : {x : X} → Run Moves x [] x
  silent : {x y z : X} {w : List ℕ} → Moves x none y → Run Moves y w z → Run Moves x w z
  spell : {x y z : X} {a : ℕ} {w : List ℕ} → Moves x (some a) y → Run Moves y w z → Run Moves x (a ∷ w) z

-- a configuration that a run over some word ends in
pub record Reachable (x : Automaton) (c : Configuration) : Type 0 where
  pub word : List ℕ
  pub run : Run (Produces x) (start x) word c

-- the runs that spell v and those that spell w end in the same configurations
abbrev pub SameEnds : Automaton → (v w : List ℕ) → Type 0
SameEnds x v w = (c : Configuration) → Run (Produces x) (start x) v c ↔ Run (Produces x) (start x) w c

-- state s is final
abbrev pub Final : Automaton → ℕ → Type 0
Final x s = get_elem? x.finals s ≡ some true

-- document 01's 'taken': a run spells the word, given by its letters' numbers, and ends in a final state
pub record Accepts (x : Automaton) (w : List ℕ) : Type 0 where
  pub end : Configuration
  pub run : Run (Produces x) (start x) w end
  pub final : Final x end.state

-- ---- what is asked of an automaton; each one that a valid file holds is so
-- the register that an operation reads or writes
abbrev pub register : Op → ℕ
register (reads i γ) = i
register (writes i γ) = i

-- the symbol that an operation reads or writes
abbrev pub symbol : Op → ℕ
symbol (reads i γ) = γ
symbol (writes i γ) = γ

-- register 0 admits only a read of 0
unfoldable pub KeepsZero : Op → Type 0
KeepsZero (reads zero γ) = γ ≡ 0
KeepsZero (reads (suc i) γ) = Unit {0}
KeepsZero (writes zero γ) = ⊥
KeepsZero (writes (suc i) γ) = Unit {0}

-- there are a state and a register, no byte stands for two letters, and arcs and operations stay within what there is
pub record WellFormed (x : Automaton) : Type 0 where
  pub some_state : 0 < states x
  pub some_register : 0 < x.registers
  pub letters_apart : Apart (keys x.alphabet)
  pub sources : (a : Arc) → Memᴰ a x.arcs → a.source < states x
  pub targets : (a : Arc) → Memᴰ a x.arcs → a.target < states x
  pub lettered : (a : Arc) → Memᴰ a x.arcs → (l : ℕ) → a.letter ≡ some l → l < letters x
  pub inside : (a : Arc) → Memᴰ a x.arcs → (o : Op) → Memᴰ o a.ops → register o < x.registers
  pub small : (a : Arc) → Memᴰ a x.arcs → (o : Op) → Memᴰ o a.ops → symbol o < x.symbols
  pub zero_kept : (a : Arc) → Memᴰ a x.arcs → (o : Op) → Memᴰ o a.ops → KeepsZero o
