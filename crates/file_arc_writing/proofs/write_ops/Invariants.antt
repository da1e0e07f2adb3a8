-- `file_arc_writing::write_ops` meets its contract.
use mathlib.Core.List.{map}
use Prim.Native.Nat.{◌-◌, ◌*◌}
use lib.ListN.{drop}
use Rattle.automata.specs.Joins.{moved_op}
use Rattle.format.specs.Decoding.{ops_of}
use Rattle.format.specs.Encoding.{ops_bytes}
use Rattle.file_writing.proofs.Laws.{Left}
use Rattle.file_arc_writing.proofs.write_ops.Given as goal

abbrev pub invariant-loop-i : goal.invariant-loop-i
invariant-loop-i l = Left 0 (ops_bytes (map (moved_op l.k) (ops_of l.p l.ops))) l.initial.out (2 * l.i) (ops_bytes (map (moved_op l.k) (ops_of (l.p - l.i) (drop (2 * l.i) l.ops)))) l.out
