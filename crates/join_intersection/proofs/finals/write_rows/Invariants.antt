-- `join_intersection::finals::write_rows` meets its contract.
use Rattle.automata.specs.Joins.{both_final}
use mathlib.Core.List.{map}
use Rattle.format.specs.Decoding.{automaton_of, is_final}
use Rattle.format.specs.Encoding.{flag_byte}
use Rattle.file_writing.proofs.Laws.{Left}
use Rattle.join_intersection.proofs.BothFlags.{flags_from}
use Rattle.join_intersection.proofs.finals.write_rows.Given as goal

abbrev pub invariant-loop-flag : goal.invariant-loop-flag
invariant-loop-flag l = Left l.at (map flag_byte (both_final (map is_final l.flags) (automaton_of l.file).finals)) l.initial.out l.to (flags_from l.flags (automaton_of l.file).finals l.flag-index) l.out
