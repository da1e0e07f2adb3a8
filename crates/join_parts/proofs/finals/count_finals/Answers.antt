-- `join_parts::finals::count_finals` meets its contract.
use mathlib.Core.Path.{◌≡◌}
use native.Mathlib.Omega.{arith}
use lib.ListN.{length}
use Rattle.automata.specs.Joins.{final_states}
use Rattle.format.specs.Decoding.{automaton_of}
use Rattle.file_laws.proofs.Laws.{file-seen, valid-ranges}
use Rattle.join_parts.proofs.FinalFlags.{final-count, lent_finals, valid-lengths}
use Rattle.join_parts.proofs.finals.count_finals.Goals as goal

pub flags_at-flags-requires : goal.flags_at-flags-requires
flags_at-flags-requires c = (valid-ranges _ _ c.requires).letters

pub overflow_add-end : goal.overflow_add-end
overflow_add-end c = let r = valid-ranges _ _ c.requires in
    omega (arith, r.letters, r.states)

pub slice_bounds-count_flags-end : goal.slice_bounds-count_flags-end
slice_bounds-count_flags-end c = omega (arith, (file-seen _ _ c.requires).there)

pub returns : goal.returns
returns c = let l = (automaton_of c.args.file.now).finals in
    let e : c.count_flags.result ≡ length (final_states 0 l) = rw (lent_finals _ _ c.requires, ← c.flags_at-flags.ensures) c.count_flags.ensures in
    (e, omega (arith, final-count 0 l, valid-lengths _ _ c.requires))
