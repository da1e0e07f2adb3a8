use mathlib.Core.Path.{◌≡◌, ap, refl, sym, ◌∙◌}
use mathlib.Core.Bool.{Bool, false, true}
use mathlib.Core.List.{List}
use Prim.Native.Nat.{ℕ, ◌+◌, ◌-◌, ◌≤◌}
use native.Mathlib.Omega.{arith}
use borrow.Author.Tests.{le-leb, leb-false, leb-true, lt-leb, not-false, not-true}
use lib.Dec.{leb}
use lib.ListN.{length, drop, length-drop}
use Rattle.file_fields.specs.declared.Reason.{Reason}
use Rattle.file_fields.specs.Parts.{all_hold, arc_size, arc_tests, arcs_tests}
use Rattle.file_fields.proofs.Laws.{all-false, arcs-all, arcs-end, each_holds, passed, tail}
use Rattle.file_arcs.proofs.ValidArc.{arc-seen}
use Rattle.file_arcs.proofs.are_arcs.Goals as goal
use Rattle.file_arcs.proofs.are_arcs.Goals.{After-is_arc, After-loop, Else-not-is_arc}

-- what the callee said of the part, said of the whole
arc-read : (c : goal.After-is_arc) → c.is_arc.result ≡ all_hold true (arc_tests c.args.c c.loop.at (drop c.loop.at c.args.file.now))
arc-read c = c.is_arc.ensures ∙ ap (λ s. all_hold true (arc_tests c.args.c c.loop.at s)) (tail c.args.file.now c.loop.at)

-- an arc without a fault is there whole
there : (c : goal.Else-not-is_arc) → c.loop.at + arc_size (drop c.loop.at c.args.file.now) ≤ length c.args.file.now
there c = let arc-read' : c.is_arc.result ≡ all_hold true (arc_tests c.args.c c.loop.at (drop c.loop.at c.args.file.now)) = c.is_arc.ensures ∙ ap (λ s. all_hold true (arc_tests c.args.c c.loop.at s)) (tail c.args.file.now c.loop.at) in
    let s = drop c.loop.at c.args.file.now in
    let h = (arc-seen c.args.c c.loop.at s (each_holds true (arc_tests c.args.c c.loop.at s) (passed (arc-read') c.if-not-is_arc.false-raw)).1).whole in
    omega (arith, length-drop c.loop.at c.args.file.now)

-- the tests of the arcs behind this one
abbrev behind : goal.After-is_arc → List (Bool × Reason × ℕ)
behind c = let next = c.loop.at + arc_size (drop c.loop.at c.args.file.now) in
    arcs_tests (c.args.c.arcs - (c.loop.counter + 1)) c.args.c next (drop next c.args.file.now)

-- what this turn decides
turn : (c : goal.After-is_arc) → all_hold true (arcs_tests c.args.c.arcs c.args.c c.args.from (drop c.args.from c.args.file.now)) ≡ all_hold c.is_arc.result (behind c)
turn c = c.loop.invariant.1 ∙ arcs-all c.args.c.arcs c.loop.counter c.args.c c.loop.at c.args.file.now c.loop-test.true ∙ rw (← arc-read c)

-- after the last arc
abbrev left : goal.After-loop → ℕ
left c = length c.args.file.now - c.loop.at

end : (c : goal.After-loop) → all_hold true (arcs_tests c.args.c.arcs c.args.c c.args.from (drop c.args.from c.args.file.now)) ≡ leb (left c) 0
end c = c.loop.invariant.1 ∙ rw (arcs-end c.args.c.arcs c.loop.counter c.args.c c.loop.at c.args.file.now c.loop-test.false)

pub loop-init : goal.loop-init
loop-init c = let e : c.args.c.arcs - 0 ≡ c.args.c.arcs = omega arith in (omega arith, rw e)

pub returns-then-not-is_arc : goal.returns-then-not-is_arc
returns-then-not-is_arc c = sym (turn (goal.at.returns-then-not-is_arc c).After-is_arc ∙ rw (not-true c.is_arc.result c.if-not-is_arc.true-raw) (all-false (behind (goal.at.returns-then-not-is_arc c).After-is_arc)))

pub arc_size-at-requires : goal.arc_size-at-requires
arc_size-at-requires c = omega (arith, there c)

pub overflow_add-at : goal.overflow_add-at
overflow_add-at c = omega (arith, there (goal.at.overflow_add-at c).Else-not-is_arc)

pub loop-preserved : goal.loop-preserved
loop-preserved c = (
  omega (arith, there (goal.at.loop-preserved c).Else-not-is_arc),
  turn (goal.at.loop-preserved c).After-is_arc ∙ rw (not-false c.is_arc.result c.if-not-is_arc.false-raw, c.arc_size-at.ensures.0),
)

pub returns : goal.returns
returns c = go (leb size at) refl ∙ sym (end c)
  where
    size : ℕ
    size = length c.args.file.now

    at : ℕ
    at = c.loop.at

    go : (b : Bool) → leb size at ≡ b → leb size at ≡ leb (size - at) 0
    go true e = e ∙ sym (le-leb (size - at) 0 (omega (arith, leb-true size at e)))
    go false e = e ∙ sym (lt-leb (size - at) 0 (omega (arith, leb-false size at e)))
