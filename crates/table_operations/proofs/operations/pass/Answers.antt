use native.Mathlib.Omega.{arith}
use mathlib.Core.Path.{sym}
use Rattle.table_operations.proofs.OperationLoop.{next-ok, Performing-start, Performing-failed, Performing-more, Performing-end}
use Rattle.table_operations.proofs.operations.pass.Goals as goal

pub loop-k-init : goal.loop-k-init
loop-k-init c = Performing-start c.args.file.now c.args.at c.byte-p.result c.args.own _ c.contents_of-regs.ensures (rw c.byte-p.ensures.0 c.requires.ok)

pub operate_at-requires : goal.operate_at-requires
operate_at-requires c = let q = next-ok _ _ _ _ c.loop-k-test.true c.loop-k.invariant in
    (omega arith, omega (arith, q.0), omega (arith, q.1), omega arith)

pub returns-in_err-regs : goal.returns-in_err-regs
returns-in_err-regs c = rw c.from_residual.ensures (sym (rw (← c.byte-p.ensures.0) (Performing-failed _ _ _ _ c.loop-k-test.true c.loop-k.invariant c.operate_at.ensures.0 c.in_err-regs.was)), tt)

pub loop-k-preserved : goal.loop-k-preserved
loop-k-preserved c = Performing-more _ _ _ _ c.loop-k-test.true c.loop-k.invariant c.operate_at.ensures.0 c.operate_at.ensures.1 _ c.in_ok-regs.was

pub returns : goal.returns
returns c = (sym (rw (← c.byte-p.ensures.0) (Performing-end _ _ _ _ c.loop-k-test.false c.loop-k.invariant)), c.loop-k.invariant.fits)
