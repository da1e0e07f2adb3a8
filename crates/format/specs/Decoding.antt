-- Decoding: the automaton that stands in the bytes of a valid file (document 01, 'The book file').
use Rattle.std.specs.Prelude.{Bool, cond, List, [], ◌∷◌, map, ℕ, zero, suc, ◌/◌, ◌%◌, eqb, get_or, drop}
use Rattle.std.proofs.Math.Option.{Option, none, some}
use Rattle.file_fields.specs.declared.Counts.{Counts}
use Rattle.file_fields.specs.Parts.{counts_of, letter_bytes, flag_bytes, first_arc, arc_size}
use Rattle.automata.specs.Automaton.{Op, reads, writes, Arc, Automaton}

-- an operation's two bytes: kind times 16 plus register, and a symbol; kind 0 reads
unfoldable pub op_of : ℕ → ℕ → Op
op_of x y = cond (eqb (x / 16) 0) (reads (x % 16) y) (writes (x % 16) y)

-- the p operations at the front of l
unfoldable pub ops_of : ℕ → List ℕ → List Op
unfolding op_of
ops_of zero l = []
ops_of (suc p) l = op_of (get_or l 0 0) (get_or l 1 0) ∷ ops_of p (drop 2 l)

-- FF is the empty move
unfoldable pub letter_of : ℕ → Option ℕ
letter_of x = cond (eqb x 255) none (some x)

-- the arc at the front of l
unfoldable pub arc_of : List ℕ → Arc
unfolding ops_of letter_of
arc_of l = record { source = get_or l 0 0; letter = letter_of (get_or l 1 0); target = get_or l 2 0; ops = ops_of (get_or l 3 0) (drop 4 l) }

-- the m arcs at the front of l
unfoldable pub arcs_of : ℕ → List ℕ → List Arc
unfolding arc_of
arcs_of zero l = []
arcs_of (suc m) l = arc_of l ∷ arcs_of m (drop (arc_size l) l)

-- 01 for a final state
abbrev pub is_final : ℕ → Bool
is_final x = eqb x 1

-- the automaton of a file with the counts c: its letters, its final flags, and its arcs behind them
unfoldable pub decoded : Counts → List ℕ → Automaton
unfolding arcs_of
decoded c s = record {
  alphabet = letter_bytes c s;
  registers = c.registers;
  symbols = c.symbols;
  finals = map is_final (flag_bytes c s);
  arcs = arcs_of c.arcs (drop (first_arc c) s);
}

-- with the counts that its own header says
unfoldable pub automaton_of : List ℕ → Automaton
unfolding decoded
automaton_of s = decoded (counts_of s) s
