use mathlib.Core.Path.{◌≡◌}
use mathlib.Core.List.{◌++◌, map}
use Prim.Native.Nat.{◌+◌, ◌-◌}
use native.Mathlib.Omega.{arith}
use lib.ListN.{drop}
use Rattle.automata.specs.Lists.{count_from}
use Rattle.format.specs.Decoding.{arc_of}
use Rattle.format.specs.Encoding.{arc_bytes, arcs_bytes}
use Rattle.file_writing.proofs.Laws.{Left, left-all, left-fits, left_less, left-none}
use Rattle.join_product_arcs.specs.JointArcs.{beside_arc}
use Rattle.join_product_arcs.proofs.BesideArcs.{Beside-next, beside_none, Beside-length}
use Rattle.join_product_arcs.proofs.beside.write_beside_each.Goals as goal
use Rattle.join_product_arcs.proofs.beside.write_beside_each.Goals.{In-loop-i}

-- an arc is written beside the state of this turn
turn : (c : goal.In-loop-i) → let g = beside_arc c.args.b (arc_of (drop c.args.from c.args.file.now)) in
    Left c.args.at (arcs_bytes (map g (count_from 0 c.args.b.states))) c.args.out.now c.loop-i.to (arc_bytes (g c.loop-i.i) ++ arcs_bytes (map g (count_from (c.loop-i.i + 1) (c.args.b.states - (c.loop-i.i + 1))))) c.loop-i.out
turn c = rw (Beside-next (beside_arc c.args.b (arc_of (drop c.args.from c.args.file.now))) c.args.b.states c.loop-i.i c.loop-i-test.true) at c.loop-i.invariant

pub loop-i-init : goal.loop-i-init
loop-i-init c = let e : c.args.b.states - 0 ≡ c.args.b.states = omega arith in
    rw e (left-all c.requires.4)

pub write_beside-to-requires : goal.write_beside-to-requires
write_beside-to-requires c = let arc = drop c.args.from c.args.file.now in
    let room = left-fits (arc_bytes (beside_arc c.args.b (arc_of arc) c.loop-i.i)) _ (turn (goal.at.write_beside-to-requires c).In-loop-i) in
    (c.requires.0, c.requires.1 c.loop-i.i c.loop-i-test.true, c.requires.2 c.loop-i.i c.loop-i-test.true, c.requires.3, omega (arith, Beside-length c.args.b arc c.loop-i.i), c.requires.5)

pub loop-i-preserved : goal.loop-i-preserved
loop-i-preserved c = left_less _ (turn (goal.at.loop-i-preserved c).In-loop-i) c.write_beside-to.ensures

pub returns : goal.returns
returns c = left-none (rw (beside_none (beside_arc c.args.b (arc_of (drop c.args.from c.args.file.now))) c.args.b.states c.loop-i.i c.loop-i-test.false) at c.loop-i.invariant)
