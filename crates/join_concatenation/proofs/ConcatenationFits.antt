-- ConcatenationFits: a concatenation that is not beyond a limit is within the limits of a file, where the two automata are.
use mathlib.Core.Path.{◌≡◌, ap, refl}
use mathlib.Core.Bool.{false}
use mathlib.Core.List.{map, ◌++◌}
use Prim.Native.Nat.{◌+◌, ◌-◌}
use native.Mathlib.Omega.{arith}
use lib.ListN.{length}
use Rattle.automata.specs.Automaton.{Automaton}
use Rattle.automata.specs.Joins.{final_states, concatenation, empty_move, moved_arc}
use Rattle.automata.specs.Words.{SameLetters}
use Rattle.automata.proofs.Laws.{each-join, same-many}
use Rattle.file_fields.specs.declared.Counts.{Counts}
use Rattle.format.specs.Limits.{Fits}
use Rattle.format.specs.Encoding.{sizes}
use Rattle.file_laws.proofs.Laws.{ArcFits, arcs-fit}
use Rattle.automata.specs.Lists.{Each}
use Rattle.join_parts.specs.Joining.{beyond}
use Rattle.join_parts.proofs.Laws.{FewOps, Room, arcs-moved, empty-moves-fit, few_ops, joined-fits, unmoved, within}
use Rattle.join_concatenation.proofs.ConcatenationBytes.{concatenation-counts}

module _ (a b : Automaton) (fa : Fits a) (fb : Fits b) (shared : SameLetters a b) where
  abbrev ca : Counts
  ca = sizes a

  abbrev cb : Counts
  cb = sizes b

  same-letters : cb.letters ≡ ca.letters
  same-letters = same-many a b shared

  concatenation-room-left : Room 0 ca (sizes (concatenation a b))
  unfolding concatenation
  concatenation-room-left = record { registers = omega (arith, fb.ranges.some_register); symbols = omega arith; letters = omega arith }

  concatenation-room-right : Room (a.registers - 1) cb (sizes (concatenation a b))
  unfolding concatenation
  concatenation-room-right = record { registers = omega (arith, fa.ranges.some_register); symbols = omega arith; letters = omega (arith, same-letters) }

  concatenation-states : length (concatenation a b).finals ≡ ca.states + cb.states
  concatenation-states = ap (λ (c : Counts). c.states) (concatenation-counts a b refl)

  pub concatenation-arcs : Each (ArcFits (sizes (concatenation a b))) (concatenation a b).arcs
  unfolding concatenation
  concatenation-arcs =
      let d = sizes (concatenation a b) in
      let s = concatenation-states in
      let ra = fa.ranges in
      let rb = fb.ranges in
      let k = a.registers - 1 in
      let final = final_states 0 a.finals in
      each-join (ArcFits d) a.arcs (map (λ i. empty_move i ca.states) final ++ map (moved_arc ca.states k) b.arcs)
      (rw (unmoved a.arcs) at (arcs-moved 0 ca d concatenation-room-left 0 a.arcs (omega arith) (arcs-fit a fa)))
      (each-join (ArcFits d) (map (λ i. empty_move i ca.states) final) (map (moved_arc ca.states k) b.arcs)
      (empty-moves-fit d (omega (arith, ra.some_register)) (omega (arith, ra.some_symbol)) ca.states a.finals (omega arith) (omega (arith, rb.some_state)))
      (arcs-moved k cb d concatenation-room-right ca.states b.arcs (omega arith) (arcs-fit b fb)))

  pub concatenation-ops : Each FewOps (concatenation a b).arcs
  concatenation-ops = few_ops (sizes (concatenation a b)) (concatenation a b).arcs concatenation-arcs

  pub concatenation-fits : beyond (concatenation a b) ≡ false → Fits (concatenation a b)
  unfolding concatenation
  concatenation-fits e =
      let ra = fa.ranges in
      let rb = fb.ranges in
      joined-fits (concatenation a b) ra.letters fa.ascends fa.well_formed.letters_apart (omega (arith, concatenation-states, ra.some_state)) (omega (arith, ra.some_register, rb.some_register)) (omega (arith, ra.some_symbol))
      (omega (arith, ra.symbols, rb.symbols)) (within (concatenation a b) e).0 concatenation-arcs
