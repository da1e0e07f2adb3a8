use mathlib.Core.Path.{ap}
use Prim.Native.Nat.{◌<◌}
use native.Mathlib.Omega.{arith}
use lib.ListN.{length}
use Rattle.join_parts.proofs.FinalFlags.{final-here, final-none, final-not}
use Rattle.join_parts.proofs.finals.count_flags.Goals as goal
use Rattle.join_parts.proofs.finals.count_flags.Goals.{then-flags-i-eq1, else-flags-i-eq1}

pub loop-i-init : goal.loop-i-init
loop-i-init c = (omega arith, omega arith)

pub loop-i-preserved : goal.loop-i-preserved
loop-i-preserved c = let h : c.loop-i.i < length c.args.flags.now = omega arith in
    elim c.if-flags-i-eq1.branch [ then-flags-i-eq1 w ↦ (omega arith, omega (arith, ap length (final-here c.args.flags.now c.loop-i.i h w.if-flags-i-eq1.true), c.loop-i.invariant.1)) | else-flags-i-eq1 w ↦ (omega arith, omega (arith, ap length (final-not c.args.flags.now c.loop-i.i h w.if-flags-i-eq1.false), c.loop-i.invariant.1)) ]

pub returns : goal.returns
returns c = omega (arith, c.loop-i.invariant.1, ap length (final-none c.args.flags.now c.loop-i.i (omega arith)))
