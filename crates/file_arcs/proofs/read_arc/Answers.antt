-- The first fault of an arc: at each return the tests before it hold, and the one there fails or all hold.
use mathlib.Core.Path.{◌≡◌, ap, sym, ◌∙◌}
use mathlib.Core.Bool.{true}
use Prim.Native.Nat.{ℕ, ◌+◌, ◌*◌}
use borrow.Author.Tests.{le-leb, lt-leb}
use lib.Dec.{leb}
use lib.ListN.{get_or, drop}
use Rattle.std.specs.Prelude.{Ok, Err}
use Rattle.file_fields.specs.declared.Reason.TheVariants.{Operation}
use Rattle.file_fields.specs.Parts.{field_tests, operation_tests, ops_front, well_ops, first_fault}
use Rattle.file_fields.proofs.Laws.{each_holds, failed, fault_append, Hold-valid, one-fails, ops-all, passed, tail}
use Rattle.file_arcs.proofs.read_arc.Goals as goal
use Rattle.file_arcs.proofs.read_arc.Goals.{After-operations_front-front, Else-not-are_fields}

-- where the fields are well, what is left decides
fielded : (c : goal.Else-not-are_fields) → first_fault (field_tests c.args.c c.args.at c.args.s.now) c.args.c ≡ Ok c.args.c
fielded c = Hold-valid (field_tests c.args.c c.args.at c.args.s.now) c.args.c (each_holds true (field_tests c.args.c c.args.at c.args.s.now) (passed c.are_fields.ensures c.if-not-are_fields.false-raw)).1

-- what the callee said of the part, said of the whole
operated : (c : goal.After-operations_front-front) → c.operations_front-front.result ≡ ops_front c.args.c (get_or c.args.s.now 1 0) (get_or c.args.s.now 3 0) (drop 4 c.args.s.now)
operated c = c.operations_front-front.ensures (get_or c.args.s.now 1 0) ∙ rw (tail c.args.s.now 4, c.byte-p.ensures.0)

-- all are operations just if as many at the front are as there should be
all-operate : (c : goal.After-operations_front-front) → well_ops c.args.c (get_or c.args.s.now 1 0) (get_or c.args.s.now 3 0) (drop 4 c.args.s.now) ≡ leb c.byte-p.result c.operations_front-front.result
all-operate c = ops-all c.args.c (get_or c.args.s.now 1 0) (get_or c.args.s.now 3 0) (drop 4 c.args.s.now) ∙ rw (operated c, c.byte-p.ensures.0)

pub returns-then-size-lt4 : goal.returns-then-size-lt4
unfolding first_fault
returns-then-size-lt4 c = rw (lt-leb _ _ c.if-size-lt4.true, c.at.ensures)

pub returns-then-not-are_fields : goal.returns-then-not-are_fields
unfolding first_fault
returns-then-not-are_fields c = rw (le-leb _ _ c.if-size-lt4.false)
    (c.field_fault.ensures ∙ sym (fault_append (field_tests c.args.c c.args.at c.args.s.now) (operation_tests c.args.c c.args.at c.args.s.now) c.args.c ∙ one-fails (field_tests c.args.c c.args.at c.args.s.now) c.args.c (first_fault (operation_tests c.args.c c.args.at c.args.s.now) c.args.c) (failed c.are_fields.ensures c.if-not-are_fields.true-raw)))

pub returns-then-size-arc_size : goal.returns-then-size-arc_size
unfolding first_fault
returns-then-size-arc_size c = rw (
  le-leb _ _ c.if-size-lt4.false,
  fault_append (field_tests c.args.c c.args.at c.args.s.now) (operation_tests c.args.c c.args.at c.args.s.now) c.args.c,
  fielded (goal.at.returns-then-size-arc_size c).Else-not-are_fields,
  ← c.arc_size.ensures.0,
  lt-leb _ _ c.if-size-arc_size.true,
  c.at-then-size-arc_size.ensures,
)

pub returns-then-front-p : goal.returns-then-front-p
unfolding first_fault
returns-then-front-p c = rw (
  le-leb _ _ c.if-size-lt4.false,
  fault_append (field_tests c.args.c c.args.at c.args.s.now) (operation_tests c.args.c c.args.at c.args.s.now) c.args.c,
  fielded (goal.at.returns-then-front-p c).Else-not-are_fields,
  ← c.arc_size.ensures.0,
  le-leb _ _ c.if-size-arc_size.false,
  all-operate (goal.at.returns-then-front-p c).After-operations_front-front ∙ lt-leb _ _ c.if-front-p.true,
  c.at-then-front-p.ensures,
)
    (ap (λ (n : ℕ). Err (record { reason = Operation; place = (c.args.at + 4 + 2 * n) })) (operated (goal.at.returns-then-front-p c).After-operations_front-front))

pub returns : goal.returns
unfolding first_fault
returns c = rw (
  le-leb _ _ c.if-size-lt4.false,
  fault_append (field_tests c.args.c c.args.at c.args.s.now) (operation_tests c.args.c c.args.at c.args.s.now) c.args.c,
  fielded (goal.at.returns c).Else-not-are_fields,
  ← c.arc_size.ensures.0,
  le-leb _ _ c.if-size-arc_size.false,
  all-operate (goal.at.returns c).After-operations_front-front ∙ le-leb _ _ c.if-front-p.false,
)
