-- IntersectionFits: an intersection that is not beyond a limit is within the limits of a file, where the two automata are.
use mathlib.Core.Path.{◌≡◌}
use mathlib.Core.Bool.{false}
use mathlib.Core.List.{List, [], ◌∷◌, ◌++◌, flat_map, map}
use mathlib.Core.Option.{none}
use Prim.Native.Nat.{ℕ, ◌+◌, ◌-◌, ◌*◌, ◌<◌}
use native.Mathlib.Nat.{one-le-mul}
use native.Mathlib.Omega.{arith}
use Rattle.automata.specs.Automaton.{Arc, Automaton}
use Rattle.automata.specs.Joins.{alike, arc_both, arc_from, arc_left, arc_right, both_arcs, intersection, is_empty_move, left_arcs, moved_op, right_arcs}
use Rattle.automata.specs.Lists.{Each, count_from, keep}
use Rattle.automata.specs.Words.{SameLetters}
use Rattle.automata.proofs.Laws.{count_from-iff, each-join, mem_each, same-many}
use Rattle.file_fields.specs.declared.Counts.{Counts}
use Rattle.format.specs.Encoding.{sizes}
use Rattle.format.specs.Limits.{Fits}
use Rattle.file_laws.proofs.Laws.{ArcFits, OpFits, arcs-fit, fits_by}
use Rattle.file_arc_writing.proofs.Laws.{ops-unmoved}
use Rattle.join_parts.specs.Joining.{beyond}
use Rattle.join_parts.proofs.Laws.{FewOps, Room, arc-moved, each-flat_map, each-imply, each_keep, each_map, ops-moved, within}
use Rattle.join_product_count.proofs.Laws.{joint_ops}
use Rattle.join_intersection.proofs.IntersectionBytes.{intersection-states}
use Rattle.join_product_arcs.proofs.Laws.{Pair-below}

each-apply : {A : Type 0} (P Q : A → Type 0) (l : List A) → Each (λ (x : A). P x → Q x) l → Each P l → Each Q l
each-apply P Q [] f h = tt
each-apply P Q (x ∷ l) f h = (f.0 h.0, each-apply P Q l f.1 h.1)

count-below : (n : ℕ) → Each (λ (j : ℕ). j < n) (count_from 0 n)
count-below n = mem_each (count_from 0 n) λ j m. omega (arith, ((count_from-iff 0 n j).0 m).1)

-- an arc as an empty move
silent : (c : Counts) (x : Arc) → ArcFits c x → ArcFits c (arc_from x.source none x.target x.ops)
silent c x h = record {
  source = h.source;
  lettered = λ l e. absurd (let z : ◌≡◌ {A = ℕ} 0 1 = cc in omega arith);
  target = h.target;
  some_op = h.some_op;
  few_ops = h.few_ops;
  ops = h.ops;
}

module _ (a b : Automaton) (fa : Fits a) (fb : Fits b) (shared : SameLetters a b) where
  abbrev ca : Counts
  ca = sizes a

  abbrev cb : Counts
  cb = sizes b

  abbrev d : Counts
  d = sizes (intersection a b)

  abbrev k : ℕ
  k = a.registers - 1

  -- within the limits, once it has few operations
  abbrev Pending : Arc → Type 0
  Pending z = FewOps z → ArcFits d z

  room-left : Room 0 ca d
  unfolding intersection
  room-left = record { registers = omega (arith, fb.ranges.some_register); symbols = omega arith; letters = omega arith }

  room-right : Room k cb d
  unfolding intersection
  room-right = record { registers = omega (arith, fa.ranges.some_register); symbols = omega arith; letters = omega (arith, same-many a b shared) }

  pair_small : (i j : ℕ) → i < ca.states → j < cb.states → i * cb.states + j < d.states
  pair_small i j p q = omega (arith, intersection-states a b, Pair-below i ca.states j cb.states p q)

  joint_fits : (x y : Arc) → ArcFits ca x → ArcFits cb y → Pending (arc_both cb.states k x y)
  unfolding intersection
  joint_fits x y p q few = record {
    source = pair_small x.source y.source p.source q.source;
    lettered = p.lettered;
    target = pair_small x.target y.target p.target q.target;
    some_op = omega (arith, joint_ops cb.states k x y, p.some_op);
    few_ops = few;
    ops = each-join (OpFits d) x.ops (map (moved_op k) y.ops) (rw (ops-unmoved x.ops) at (ops-moved 0 ca d room-left x.ops p.ops)) (ops-moved k cb d room-right y.ops q.ops);
  }

  left-fits : (x : Arc) (j : ℕ) → ArcFits ca x → j < cb.states → ArcFits d (arc_left cb.states x j)
  left-fits x j p q =
      rw (ops-unmoved x.ops) at
      (arc-moved 0 ca d room-left (x.source * cb.states + j) (x.target * cb.states + j) (arc_from x.source none x.target x.ops) (pair_small x.source j p.source q) (pair_small x.target j p.target q) (silent ca x p))

  right-fits : (y : Arc) (i : ℕ) → ArcFits cb y → i < ca.states → ArcFits d (arc_right cb.states k y i)
  right-fits y i p q =
      arc-moved k cb d room-right (i * cb.states + y.source) (i * cb.states + y.target) (arc_from y.source none y.target y.ops) (pair_small i y.source q p.source) (pair_small i y.target q p.target) (silent cb y p)

  joint_pending : Each Pending (both_arcs a b)
  unfolding both_arcs
  joint_pending =
      let pair : Arc → Arc → List Arc = λ x y. keep (alike x.letter y.letter) (arc_both cb.states k x y ∷ []) in
      each-flat_map Pending (λ (x : Arc). flat_map (pair x) b.arcs) a.arcs
      (each-imply (ArcFits ca) (λ (x : Arc). Each Pending (flat_map (pair x) b.arcs))
      (λ x p. each-flat_map Pending (pair x) b.arcs
      (each-imply (ArcFits cb) (λ (y : Arc). Each Pending (pair x y)) (λ y q. each_keep Pending (alike x.letter y.letter) (arc_both cb.states k x y ∷ []) (joint_fits x y p q, tt)) b.arcs (arcs-fit b fb)))
      a.arcs (arcs-fit a fa))

  left-pending : Each Pending (left_arcs a b)
  unfolding left_arcs
  left-pending =
      let n = cb.states in
      let row : Arc → List Arc = λ x. keep (is_empty_move x.letter) (map (arc_left n x) (count_from 0 n)) in
      each-flat_map Pending row a.arcs
      (each-imply (ArcFits ca) (λ (x : Arc). Each Pending (row x))
      (λ x p. each_keep Pending (is_empty_move x.letter) (map (arc_left n x) (count_from 0 n))
      (each_map Pending (arc_left n x) (count_from 0 n) (each-imply (λ (j : ℕ). j < n) (λ (j : ℕ). Pending (arc_left n x j)) (λ j q few. left-fits x j p q) (count_from 0 n) (count-below n))))
      a.arcs (arcs-fit a fa))

  right-pending : Each Pending (right_arcs a b)
  unfolding right_arcs
  right-pending =
      let n = cb.states in
      let m = ca.states in
      let row : Arc → List Arc = λ y. keep (is_empty_move y.letter) (map (arc_right n k y) (count_from 0 m)) in
      each-flat_map Pending row b.arcs
      (each-imply (ArcFits cb) (λ (y : Arc). Each Pending (row y))
      (λ y p. each_keep Pending (is_empty_move y.letter) (map (arc_right n k y) (count_from 0 m))
      (each_map Pending (arc_right n k y) (count_from 0 m) (each-imply (λ (i : ℕ). i < m) (λ (i : ℕ). Pending (arc_right n k y i)) (λ i q few. right-fits y i p q) (count_from 0 m) (count-below m))))
      b.arcs (arcs-fit b fb))

  pub intersection-arcs : Each FewOps (intersection a b).arcs → Each (ArcFits d) (intersection a b).arcs
  unfolding intersection
  intersection-arcs few =
      each-apply FewOps (ArcFits d) (both_arcs a b ++ (left_arcs a b ++ right_arcs a b))
      (each-join Pending (both_arcs a b) (left_arcs a b ++ right_arcs a b) joint_pending (each-join Pending (left_arcs a b) (right_arcs a b) left-pending right-pending)) few

  -- what has no arc with more than 8 operations, and counts within the limits, is a file's automaton
  pub intersection-fits : beyond (intersection a b) ≡ false → Fits (intersection a b)
  unfolding intersection
  intersection-fits e =
      let ra = fa.ranges in
      let rb = fb.ranges in
      let f = within (intersection a b) e in
      fits_by (intersection a b) (record {
        letters = ra.letters;
        some_state = omega (arith, intersection-states a b, one-le-mul ra.some_state rb.some_state);
        states = f.0.states;
        some_register = omega (arith, ra.some_register, rb.some_register);
        registers = f.0.registers;
        some_symbol = omega (arith, ra.some_symbol);
        symbols = omega (arith, ra.symbols, rb.symbols);
        arcs = f.0.arcs;
      }) fa.ascends fa.well_formed.letters_apart (intersection-arcs f.1)
