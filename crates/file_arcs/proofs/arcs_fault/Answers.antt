use mathlib.Core.Path.{◌≡◌, sym, ap, ◌∙◌}
use mathlib.Core.List.{[], ◌∷◌}
use Prim.Native.Nat.{ℕ, ◌+◌, ◌-◌, ◌≤◌}
use native.Mathlib.Omega.{arith}
use borrow.Author.Tests.{le-leb, lt-leb}
use lib.Dec.{leb}
use lib.ListN.{length, drop, length-drop}
use Rattle.std.specs.Prelude.{Err}
use Rattle.file_fields.specs.declared.Reason.TheVariants.{BytesAfterTheLastArc}
use Rattle.file_fields.specs.Parts.{arc_size, arc_tests, arcs_tests, first_fault}
use Rattle.file_fields.proofs.Laws.{and_then, arcs-at, arcs-end, itself, tail}
use Rattle.std.proofs.lemmas.Result.{err_from_is_err_and}
use Rattle.file_arcs.proofs.ValidArc.{arc-whole}
use Rattle.file_arcs.proofs.arcs_fault.Goals as goal
use Rattle.file_arcs.proofs.arcs_fault.Goals.{After-loop, After-read_arc, In_ok-read_arc}

-- what the callee said of the part, said of the whole
arc-read : (c : goal.After-read_arc) → c.read_arc.result ≡ first_fault (arc_tests c.args.c c.loop.at (drop c.loop.at c.args.file.now)) c.args.c
arc-read c = c.read_arc.ensures ∙ ap (λ l. first_fault (arc_tests c.args.c c.loop.at l) c.args.c) (tail c.args.file.now c.loop.at)

-- an arc without a fault is there whole
there : (c : goal.In_ok-read_arc) → c.loop.at + arc_size (drop c.loop.at c.args.file.now) ≤ length c.args.file.now
there c = let arc-read' : c.read_arc.result ≡ first_fault (arc_tests c.args.c c.loop.at (drop c.loop.at c.args.file.now)) c.args.c = c.read_arc.ensures ∙ ap (λ l. first_fault (arc_tests c.args.c c.loop.at l) c.args.c) (tail c.args.file.now c.loop.at) in
    let h = arc-whole c.args.c c.loop.at (drop c.loop.at c.args.file.now) (sym (arc-read') ∙ c.in_ok-read_arc.was) in
    omega (arith, length-drop c.loop.at c.args.file.now)

-- what this turn decides
turn : (c : goal.After-read_arc) → first_fault (arcs_tests c.args.c.arcs c.args.c c.args.from (drop c.args.from c.args.file.now)) c.args.c
    ≡ and_then c.read_arc.result (first_fault (arcs_tests (c.args.c.arcs - (c.loop.counter + 1)) c.args.c (c.loop.at + arc_size (drop c.loop.at c.args.file.now)) (drop (c.loop.at + arc_size (drop c.loop.at c.args.file.now)) c.args.file.now)) c.args.c)
turn c = c.loop.invariant.1 ∙ arcs-at c.args.c.arcs c.loop.counter c.args.c c.loop.at c.args.file.now c.loop-test.true ∙ rw (← arc-read c)

-- after the last arc
abbrev left : goal.After-loop → ℕ
left c = length c.args.file.now - c.loop.at

end : (c : goal.After-loop) → first_fault (arcs_tests c.args.c.arcs c.args.c c.args.from (drop c.args.from c.args.file.now)) c.args.c ≡ first_fault ((leb (left c) 0, BytesAfterTheLastArc, c.loop.at) ∷ []) c.args.c
end c = c.loop.invariant.1 ∙ rw (arcs-end c.args.c.arcs c.loop.counter c.args.c c.loop.at c.args.file.now c.loop-test.false)

pub loop-init : goal.loop-init
loop-init c = let e : c.args.c.arcs - 0 ≡ c.args.c.arcs = omega arith in (omega arith, rw e)

pub returns-in_err-read_arc : goal.returns-in_err-read_arc
returns-in_err-read_arc c = let p = err_from_is_err_and c.from_residual.result c.from_residual.ensures.1 in
    let e : c.read_arc.result ≡ Err c.in_err-read_arc.field-0.0 = c.in_err-read_arc.was in
    rw (p.1, p.2) (sym (turn (goal.at.returns-in_err-read_arc c).After-read_arc ∙ rw e))

pub arc_size-at-requires : goal.arc_size-at-requires
arc_size-at-requires c = omega (arith, there c)

pub overflow_add-at : goal.overflow_add-at
overflow_add-at c = omega (arith, there (goal.at.overflow_add-at c).In_ok-read_arc)

pub loop-preserved : goal.loop-preserved
loop-preserved c = (omega (arith, there (goal.at.loop-preserved c).In_ok-read_arc), turn (goal.at.loop-preserved c).After-read_arc ∙ rw (c.in_ok-read_arc.was, c.arc_size-at.ensures.0))

pub returns-then-at-file : goal.returns-then-at-file
unfolding first_fault
returns-then-at-file c = sym (end (goal.at.returns-then-at-file c).After-loop ∙ rw (lt-leb (left (goal.at.returns-then-at-file c).After-loop) 0 (omega arith), c.at.ensures) (itself _))

pub returns : goal.returns
unfolding first_fault
returns c = sym (end (goal.at.returns c).After-loop ∙ rw (le-leb (left (goal.at.returns c).After-loop) 0 (omega arith)))
