-- `join_product_count::count_arcs` meets its contract.
use mathlib.Core.Path.{refl}
use mathlib.Core.List.{[], ◌++◌, append_assoc}
use Prim.Native.Nat.{◌-◌}
use native.Mathlib.Omega.{arith}
use lib.ListN.{length-map}
use Rattle.automata.specs.Joins.{arc_right, both_arcs, intersection, left_arcs, moved_op, right_arcs}
use Rattle.format.specs.Decoding.{automaton_of}
use Rattle.file_laws.proofs.Laws.{valid-ranges}
use Rattle.join_parts.specs.OwnNumbers.{by_first}
use Rattle.join_parts.proofs.Laws.{valid-lengths}
use Rattle.join_product_count.specs.ProductArcs.{numbers_by}
use Rattle.join_product_count.proofs.Uncounted.{Tallied-append}
use Rattle.join_product_count.proofs.ArcGroups.{right-group}
use Rattle.join_product_count.proofs.count_arcs.Goals as goal

pub count_empty-right-requires : goal.count_empty-right-requires
count_empty-right-requires c = (c.requires.second, (valid-ranges _ _ c.requires.first).states)

pub returns : goal.returns
unfolding intersection
returns c = let x = automaton_of c.args.first.now in
    let y = automaton_of c.args.second.now in
    let z = by_first c.args.first.now c.args.others.now c.args.second.now in
    let k = x.registers - 1 in
    let rights = right-group x y (numbers_by c.args.first.now c.args.others.now) [] (valid-lengths _ _ c.requires.second).1 refl (valid-lengths _ _ c.requires.first).1 in (
      rw (← append_assoc (both_arcs x z) (left_arcs x z) (right_arcs x z))
          (Tallied-append (both_arcs x z ++ left_arcs x z) (right_arcs x z) c.count_first-joint.ensures.0 (rw rights (c.count_empty-right.ensures.0 (arc_right c.args.b.states k) (λ w i. length-map w.ops (moved_op k))))),
      omega (arith, c.count_first-joint.ensures.1, c.count_empty-right.ensures.1),
      omega (arith, c.count_first-joint.ensures.1, c.count_empty-right.ensures.1),
    )
