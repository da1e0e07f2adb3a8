use mathlib.Core.Path.{◌≡◌}
use mathlib.Core.List.{◌∷◌}
use Prim.Native.Nat.{◌+◌, ◌-◌, ◌*◌}
use native.Mathlib.Omega.{arith}
use Rattle.format.specs.Encoding.{ops_bytes}
use Rattle.file_writing.proofs.Laws.{left-all, left-byte, left-none}
use Rattle.file_arc_writing.proofs.ArcBytes.{cleared, cleared_at, cleared-end, cleared-length}
use Rattle.file_arc_writing.proofs.write_clearing.Goals as goal

pub loop-i-init : goal.loop-i-init
loop-i-init c = let e : c.args.p - 0 ≡ c.args.p = omega arith in
    rw e (left-all (omega (arith, c.requires.1, cleared-length c.args.p)))

pub loop-i-preserved : goal.loop-i-preserved
loop-i-preserved c = let rest = ops_bytes (cleared (1 + (c.loop-i.i + 1)) (c.args.p - (c.loop-i.i + 1))) in
    let e : 2 * (c.loop-i.i + 1) ≡ 2 * c.loop-i.i + 1 + 1 = omega arith in
    rw e (left-byte 0 rest (left-byte (17 + c.loop-i.i) (0 ∷ rest) (rw (cleared_at c.args.p c.loop-i.i (omega arith)) at c.loop-i.invariant)))

pub returns : goal.returns
returns c = (left-none (rw (cleared-end c.args.p c.loop-i.i (omega arith)) at c.loop-i.invariant)).output
