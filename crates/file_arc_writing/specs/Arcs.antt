-- Arcs: the arc that the first three bytes and a list of operations stand for (document 01, 'The book file').
use Rattle.std.specs.Prelude.{List, ℕ, ◌*◌, ◌<◌, get_or}
use Rattle.automata.specs.Automaton.{Op, Arc}
use Rattle.automata.specs.Joins.{arc_from}
use Rattle.format.specs.Decoding.{letter_of}
use Rattle.file_arc_writing.specs.declared.Fields.{Fields}

-- the arc with these fields and operations
abbrev pub arc_with : Fields → List Op → Arc
arc_with f ops = arc_from f.source (letter_of f.letter) f.target ops

-- each of the p operations at the front of a list is a read or a write: its first byte is below 32
abbrev pub KnownOps : (p : ℕ) (ops : List ℕ) → Type 0
KnownOps p ops = (i : ℕ) → i < p → get_or ops (2 * i) 0 < 32

-- each of the three is a byte
pub record AreBytes (f : Fields) : Type 0 where
  pub source : f.source < 256
  pub letter : f.letter < 256
  pub target : f.target < 256
