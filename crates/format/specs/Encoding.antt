-- Encoding: the bytes of an automaton (document 01, 'The book file').
use Rattle.std.specs.Prelude.{Bool, true, false, List, [], ◌∷◌, ◌++◌, map, ℕ, ◌+◌, ◌*◌, ◌/◌, ◌%◌, length}
use Rattle.std.proofs.Math.Option.{Option, none, some}
use Rattle.file_fields.specs.declared.Counts.{Counts}
use Rattle.automata.specs.Automaton.{Op, reads, writes, register, symbol, Arc, Automaton}

-- an automaton's counts
abbrev pub sizes : Automaton → Counts
sizes x = record { letters = length x.alphabet; states = length x.finals; registers = x.registers; symbols = x.symbols; arcs = length x.arcs }

-- MLB, version 1, and the counts; a two-byte number has its low byte first
unfoldable pub header_bytes : Counts → List ℕ
header_bytes c =
    0x4D ∷ 0x4C ∷ 0x42 ∷ 1 ∷ 0 ∷ c.letters ∷ (c.states % 256) ∷ (c.states / 256) ∷ c.registers ∷ c.symbols ∷ (c.arcs % 256) ∷ (c.arcs / 256) ∷ []

-- 01 for a final state, else 00
abbrev pub flag_byte : Bool → ℕ
flag_byte true = 1
flag_byte false = 0

-- 0 reads, 1 writes
abbrev pub kind : Op → ℕ
kind (reads i γ) = 0
kind (writes i γ) = 1

-- kind times 16 plus register, and the symbol
abbrev pub op_bytes : Op → List ℕ
op_bytes o = (kind o * 16 + register o) ∷ symbol o ∷ []

-- operations one behind the other
unfoldable pub ops_bytes : List Op → List ℕ
ops_bytes [] = []
ops_bytes (o ∷ os) = op_bytes o ++ ops_bytes os

-- a letter's number, or FF, the empty move
abbrev pub letter_byte : Option ℕ → ℕ
letter_byte none = 255
letter_byte (some k) = k

-- from-state, letter, to-state and the number of operations, and the operations behind these four
unfoldable pub arc_bytes : Arc → List ℕ
unfolding ops_bytes
arc_bytes x = x.source ∷ letter_byte x.letter ∷ x.target ∷ length x.ops ∷ ops_bytes x.ops

-- arcs one behind the other
unfoldable pub arcs_bytes : List Arc → List ℕ
unfolding arc_bytes
arcs_bytes [] = []
arcs_bytes (x ∷ l) = arc_bytes x ++ arcs_bytes l

-- the whole file: header, letters, final flags, arcs
unfoldable pub bytes_of : Automaton → List ℕ
unfolding header_bytes arcs_bytes
bytes_of x = header_bytes (sizes x) ++ (x.alphabet ++ (map flag_byte x.finals ++ arcs_bytes x.arcs))
