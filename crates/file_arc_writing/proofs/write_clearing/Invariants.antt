-- `file_arc_writing::write_clearing` meets its contract.
use Prim.Native.Nat.{◌+◌, ◌-◌, ◌*◌}
use Rattle.format.specs.Encoding.{ops_bytes}
use Rattle.file_writing.proofs.Laws.{Left}
use Rattle.file_arc_writing.proofs.ArcBytes.{cleared}
use Rattle.file_arc_writing.proofs.write_clearing.Given as goal

abbrev pub invariant-loop-i : goal.invariant-loop-i
invariant-loop-i l = Left 0 (ops_bytes (cleared 1 l.p)) l.initial.out (2 * l.i) (ops_bytes (cleared (1 + l.i) (l.p - l.i))) l.out
