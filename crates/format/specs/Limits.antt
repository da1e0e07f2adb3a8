-- Limits: the automata that a file can hold (document 01, 'The book file').
use Rattle.std.specs.Prelude.{◌≡◌, true, ℕ, ◌≤◌, ◌<◌, length, get_or}
use mathlib.Core.List.{List, Memᴰ}
use Rattle.file_fields.specs.declared.Counts.{Counts}
use Rattle.file_fields.specs.Parts.{ascending}
use Rattle.format.specs.Encoding.{sizes}
use Rattle.automata.specs.Automaton.{Arc, Automaton, WellFormed}

-- the counts' ranges
pub record Ranges (c : Counts) : Type 0 where
  pub letters : c.letters ≤ 64
  pub some_state : 1 ≤ c.states
  pub states : c.states ≤ 256
  pub some_register : 1 ≤ c.registers
  pub registers : c.registers ≤ 8
  pub some_symbol : 1 ≤ c.symbols
  pub symbols : c.symbols ≤ 16
  pub arcs : c.arcs ≤ 2048

-- an automaton within the limits: its letters' bytes ascend strictly, no two of them for one letter (well-formed), and each arc has 1 to 8
-- operations
pub record Fits (x : Automaton) : Type 0 where
  pub well_formed : WellFormed x
  pub ranges : Ranges (sizes x)
  pub ascends : ascending x.alphabet ≡ true
  pub some_op : (a : Arc) → Memᴰ a x.arcs → 1 ≤ length a.ops
  pub few_ops : (a : Arc) → Memᴰ a x.arcs → length a.ops ≤ 8

-- each of a list is a byte
abbrev pub Bytes : List ℕ → Type 0
Bytes s = (i : ℕ) → get_or s i 0 < 256
