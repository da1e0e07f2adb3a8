-- ClosureFits: a closure that is not beyond a limit is within the limits of a file, where the automaton is.
use mathlib.Core.Path.{◌≡◌}
use mathlib.Core.Bool.{false}
use mathlib.Core.List.{map}
use mathlib.Core.Option.{none}
use Prim.Native.Nat.{◌+◌}
use native.Mathlib.Omega.{arith}
use Rattle.automata.specs.Automaton.{Automaton}
use Rattle.automata.specs.Joins.{clearing, closure, final_states, moved, arc_from}
use Rattle.automata.proofs.Laws.{each-join}
use Rattle.format.specs.Limits.{Fits}
use Rattle.format.specs.Encoding.{sizes}
use Rattle.file_laws.proofs.Laws.{ArcFits, arcs-fit}
use Rattle.automata.specs.Lists.{Each}
use Rattle.join_parts.specs.Joining.{beyond}
use Rattle.join_parts.proofs.Laws.{FewOps, Room, few_ops, joined-fits, return_fits, returns_fit, states-moved, within}

module _ (a : Automaton) (fa : Fits a) where
  closure-room : Room 0 (sizes a) (sizes (closure a))
  unfolding closure
  closure-room = record { registers = omega arith; symbols = omega arith; letters = omega arith }

  pub closure-arcs : Each (ArcFits (sizes (closure a))) (closure a).arcs
  unfolding closure clearing
  closure-arcs =
      let d = sizes (closure a) in
      let ra = fa.ranges in
      let n = a.registers in
      let final = final_states 0 a.finals in (
        return_fits d ra.some_register ra.some_symbol 1 0 1 ra.some_register (omega arith) (omega arith) (omega (arith, ra.some_state)),
        each-join (ArcFits d) (map (moved 1) a.arcs) (map (λ i. arc_from (1 + i) none 1 (clearing n)) final)
            (states-moved (sizes a) d closure-room 1 a.arcs (omega arith) (arcs-fit a fa))
            (returns_fit d ra.some_register ra.some_symbol 1 1 n a.finals (omega arith) (omega (arith, ra.some_state)) (omega arith) ra.registers),
      )

  pub closure-ops : Each FewOps (closure a).arcs
  closure-ops = few_ops (sizes (closure a)) (closure a).arcs closure-arcs

  pub closure-fits : beyond (closure a) ≡ false → Fits (closure a)
  unfolding closure
  closure-fits e =
      let ra = fa.ranges in
      joined-fits (closure a) ra.letters fa.ascends fa.well_formed.letters_apart (omega arith) ra.some_register ra.some_symbol ra.symbols (within (closure a) e).0 closure-arcs
