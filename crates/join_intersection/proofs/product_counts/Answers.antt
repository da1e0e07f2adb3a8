-- `join_intersection::product_counts` meets its contract.
use mathlib.Core.Path.{ap}
use mathlib.Core.List.{[]}
use Prim.Native.Nat.{◌≤◌}
use native.Mathlib.Omega.{arith}
use native.Mathlib.Nat.{mul-le-mul_left}
use Rattle.automata.specs.Automaton.{letters}
use Rattle.relettering.specs.Relettering.{with_letters}
use Rattle.file_fields.specs.declared.Counts.{Counts}
use Rattle.join_product_count.specs.ProductArcs.{with_arcs}
use Rattle.join_intersection.proofs.IntersectionBytes.{intersection-counts}
use Rattle.join_intersection.proofs.product_counts.Goals as goal

pub overflow_mul-result : goal.overflow_mul-result
overflow_mul-result c = omega (arith, mul-le-mul_left c.args.a.states c.requires.1.states, c.requires.0.states)

pub returns : goal.returns
unfolding with_letters
returns c = λ x y new p q.
    let room : letters x ≤ c.args.letters = omega (arith, c.requires.2, ap (λ (d : Counts). d.letters) p) in
    rw (c.max.ensures, ← p, ← q) (ap (with_arcs c.args.arcs) (intersection-counts x (with_letters new [] y) c.args.letters room))
