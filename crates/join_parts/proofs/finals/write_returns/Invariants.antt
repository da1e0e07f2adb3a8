-- `join_parts::finals::write_returns` meets its contract.
use mathlib.Core.List.{map}
use Rattle.format.specs.Encoding.{arcs_bytes}
use Rattle.file_writing.proofs.Laws.{Left}
use Rattle.join_parts.proofs.FinalFlags.{final_from, returning}
use Rattle.join_parts.proofs.finals.write_returns.Given as goal

abbrev pub invariant-loop-i : goal.invariant-loop-i
invariant-loop-i l = Left l.at (arcs_bytes (map (returning l.s l.t l.n) (final_from l.flags 0))) l.initial.out l.to (arcs_bytes (map (returning l.s l.t l.n) (final_from l.flags l.i))) l.out
