-- `file_arc_writing::moved_operation` meets its contract.
use mathlib.Core.Path.{◌∙◌, sym}
use native.Mathlib.Omega.{arith}
use Rattle.file_arc_writing.proofs.ArcBytes.{others-move, zero-stays}
use Rattle.file_arc_writing.proofs.moved_operation.Goals as goal

pub returns-then-operation_register-eq0 : goal.returns-then-operation_register-eq0
returns-then-operation_register-eq0 c = (λ y. zero-stays c.args.k c.args.x y c.requires.0 (sym c.operation_register.ensures ∙ c.if-operation_register-eq0.true), omega (arith, c.requires.0))

pub returns-else-operation_register-eq0 : goal.returns-else-operation_register-eq0
returns-else-operation_register-eq0 c = (λ y. others-move c.args.k c.args.x y c.requires.0 (λ e. c.if-operation_register-eq0.false (c.operation_register.ensures ∙ e)), omega (arith, c.requires))
