-- UnionFits: a union that is not beyond a limit is within the limits of a file, where the two automata are.
use mathlib.Core.Path.{◌≡◌, ap}
use mathlib.Core.Bool.{false}
use mathlib.Core.List.{map}
use Prim.Native.Nat.{◌+◌, ◌≤◌}
use native.Mathlib.Omega.{arith}
use lib.ListN.{length}
use Rattle.automata.specs.Automaton.{Automaton}
use Rattle.automata.specs.Joins.{union, clearing, moved}
use Rattle.automata.specs.Words.{SameLetters}
use Rattle.automata.proofs.Laws.{each-join, same-many}
use Rattle.file_fields.specs.declared.Counts.{Counts}
use Rattle.format.specs.Limits.{Fits}
use Rattle.format.specs.Encoding.{sizes}
use Rattle.file_laws.proofs.Laws.{ArcFits, arcs-fit}
use Rattle.automata.specs.Lists.{Each}
use Rattle.join_parts.specs.Joining.{beyond}
use Rattle.join_parts.proofs.Laws.{FewOps, Room, few_ops, joined-fits, return_fits, states-moved, within}
use Rattle.join_union.proofs.UnionBytes.{union-counts}

module _ (a b : Automaton) (fa : Fits a) (fb : Fits b) (shared : SameLetters a b) where
  abbrev ca : Counts
  ca = sizes a

  abbrev cb : Counts
  cb = sizes b

  same-letters : cb.letters ≡ ca.letters
  same-letters = same-many a b shared

  union-states : length (union a b).finals ≡ 1 + ca.states + cb.states
  union-states = ap (λ (c : Counts). c.states) (union-counts a b)

  union-room-left : Room 0 ca (sizes (union a b))
  unfolding union
  union-room-left = record { registers = omega arith; symbols = omega arith; letters = omega arith }

  union-room-right : Room 0 cb (sizes (union a b))
  unfolding union
  union-room-right = record { registers = omega arith; symbols = omega arith; letters = omega (arith, same-letters) }

  pub union-arcs : Each (ArcFits (sizes (union a b))) (union a b).arcs
  unfolding union clearing
  union-arcs =
      let d = sizes (union a b) in
      let s = union-states in
      let ra = fa.ranges in
      let rb = fb.ranges in
      let r : 1 ≤ d.registers = omega (arith, ra.some_register) in
      let g : 1 ≤ d.symbols = omega (arith, ra.some_symbol) in (
        return_fits d r g 1 0 1 r (omega arith) (omega arith) (omega (arith, ra.some_state)),
        (
          return_fits d r g 1 0 (1 + ca.states) r (omega arith) (omega arith) (omega (arith, rb.some_state)),
          each-join (ArcFits d) (map (moved 1) a.arcs) (map (moved (1 + ca.states)) b.arcs)
              (states-moved ca d union-room-left 1 a.arcs (omega arith) (arcs-fit a fa))
              (states-moved cb d union-room-right (1 + ca.states) b.arcs (omega arith) (arcs-fit b fb)),
        ),
      )

  pub union-ops : Each FewOps (union a b).arcs
  union-ops = few_ops (sizes (union a b)) (union a b).arcs union-arcs

  pub union-fits : beyond (union a b) ≡ false → Fits (union a b)
  unfolding union
  union-fits e =
      let ra = fa.ranges in
      let rb = fb.ranges in
      joined-fits (union a b) ra.letters fa.ascends fa.well_formed.letters_apart (omega arith) (omega (arith, ra.some_register)) (omega (arith, ra.some_symbol)) (omega (arith, ra.symbols, rb.symbols))
      (within (union a b) e).0 union-arcs
