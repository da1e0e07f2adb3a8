use mathlib.Core.Path.{◌≡◌}
use mathlib.Core.List.{List, ◌++◌, map}
use Prim.Native.Nat.{ℕ, ◌<◌, ◌+◌}
use native.Mathlib.Omega.{arith}
use lib.ListN.{length, get_or}
use Rattle.format.specs.Encoding.{arc_bytes, arcs_bytes}
use Rattle.format.specs.Decoding.{letter_of}
use Rattle.file_writing.proofs.Laws.{Left, left-all, left-fits, left_less, left-none}
use Rattle.file_arc_writing.proofs.Laws.{arc-length}
use Rattle.join_parts.proofs.FinalFlags.{final-here, final-none, final_from, returning, final-not}
use Rattle.join_parts.proofs.finals.write_returns.Goals as goal
use Rattle.join_parts.proofs.finals.write_returns.Goals.{then-flag-eq1, else-flag-eq1}

-- an arc is written from the final state i
turn : (flags : List ℕ) (s t n i : ℕ) {at to : ℕ} {all old out : List ℕ} → i < length flags → get_or flags i 0 ≡ 1 → Left at all old to (arcs_bytes (map (returning s t n) (final_from flags i))) out
    → Left at all old to (arc_bytes (returning s t n i) ++ arcs_bytes (map (returning s t n) (final_from flags (i + 1)))) out
unfolding arcs_bytes
turn flags s t n i h e l = rw (final-here flags i h e) at l

pub loop-i-init : goal.loop-i-init
loop-i-init c = left-all c.requires.3

pub write_clearing_arc-to-requires : goal.write_clearing_arc-to-requires
write_clearing_arc-to-requires c = let room = left-fits (arc_bytes (returning c.args.s c.args.t c.args.n c.loop-i.i)) _ (turn c.args.flags.now c.args.s c.args.t c.args.n c.loop-i.i (omega arith) c.if-flag-eq1.true c.loop-i.invariant) in (
  record { source = omega (arith, c.requires.0); letter = omega arith; target = c.requires.1 },
  c.requires.2,
  omega (arith, arc-length (returning c.args.s c.args.t c.args.n c.loop-i.i)),
)

pub loop-i-preserved : goal.loop-i-preserved
unfolding letter_of
loop-i-preserved c =
    elim c.if-flag-eq1.branch [ then-flag-eq1 w ↦ rw (w.out-is, w.to-is) (left_less _ (turn c.args.flags.now c.args.s c.args.t c.args.n c.loop-i.i (omega arith) w.if-flag-eq1.true c.loop-i.invariant) w.write_clearing_arc-to.ensures) | else-flag-eq1 w ↦ rw (w.out-is, w.to-is) (rw (final-not c.args.flags.now c.loop-i.i (omega arith) w.if-flag-eq1.false) at c.loop-i.invariant) ]

pub returns : goal.returns
unfolding arcs_bytes
returns c = left-none (rw (final-none c.args.flags.now c.loop-i.i (omega arith)) at c.loop-i.invariant)
