-- JointArcs: when a joint arc can be written, and an empty move beside a state of the other automaton (document 01, 'Joining books').
use Rattle.std.specs.Prelude.{List, map, ℕ, ◌+◌, ◌*◌, ◌<◌, ◌≤◌, drop, get_or, length}
use Rattle.std.proofs.Math.Option.{none}
use Rattle.automata.specs.Automaton.{Arc}
use Rattle.automata.specs.Joins.{arc_from, moved_op}
use Rattle.file_fields.specs.Parts.{arc_size}
use Rattle.format.specs.Decoding.{arc_of}
use Rattle.file_arc_writing.specs.Arcs.{KnownOps}
use Rattle.join_product_arcs.specs.declared.beside.Beside.{Beside}

-- each operation of the arc at a place is a read or a write
abbrev pub KnownAt : (s : List ℕ) (from : ℕ) → Type 0
KnownAt s from = KnownOps (get_or s (from + 3) 0) (drop (from + 4) s)

-- a joint arc can be written: the arcs stand whole at their places, its states and the number of its operations are bytes, and each
-- operation is a read or a write
pub record Writable (n k : ℕ) (s : List ℕ) (from : ℕ) (t : List ℕ) (other : ℕ) : Type 0 where
  pub first : from + arc_size (drop from s) ≤ length s
  pub second : other + arc_size (drop other t) ≤ length t
  pub source : (arc_of (drop from s)).source * n + (arc_of (drop other t)).source < 256
  pub target : (arc_of (drop from s)).target * n + (arc_of (drop other t)).target < 256
  pub ops : length (arc_of (drop from s)).ops + length (arc_of (drop other t)).ops < 256
  pub shift : k ≤ 8
  pub first_kinds : KnownAt s from
  pub second_kinds : KnownAt t other

-- an empty move beside state i of the other automaton
abbrev pub beside_arc : Beside → Arc → ℕ → Arc
beside_arc b x i = arc_from (x.source * b.scale + i * b.step) none (x.target * b.scale + i * b.step) (map (moved_op b.shift) x.ops)
