use mathlib.Core.Path.{◌∙◌, ap}
use mathlib.Core.List.{[], ◌∷◌}
use Prim.Native.Nat.{◌+◌}
use Rattle.format.specs.Encoding.{flag_byte}
use Rattle.file_writing.proofs.Laws.{Left, left-all, left-fits, left_less, left-none}
use Rattle.unfold.proofs.CountedLists.{counted_next, counted_none}
use Rattle.unfold.proofs.FlagBytes.{flag_in, flags-all, flags-length, flags_from}
use Rattle.unfold.proofs.flags.write_flags.Goals as goal
use Rattle.unfold.proofs.flags.write_flags.Goals.{In-loop-i}

-- the flag of this turn is the first that is left
turn : (c : goal.In-loop-i) → Left c.args.at (flags_from c.args.finals 0 c.args.n) c.args.out.now c.loop-i.next (flag_in c.args.finals c.loop-i.i ∷ flags_from c.args.finals (c.loop-i.i + 1) c.args.n) c.loop-i.out
turn c = rw (counted_next (flag_in c.args.finals) c.loop-i.i c.args.n c.loop-i-test.true) at c.loop-i.invariant

pub loop-i-init : goal.loop-i-init
loop-i-init c = left-all (rw (flags-length c.args.finals c.args.n) c.requires.1)

pub write_byte-next-requires : goal.write_byte-next-requires
write_byte-next-requires c = left-fits (_ ∷ []) _ (turn (goal.at.write_byte-next-requires c).In-loop-i)

pub loop-i-preserved : goal.loop-i-preserved
loop-i-preserved c = let e = c.flag_of-flag.ensures ∙ ap flag_byte c.has.ensures in
    left_less _ (turn (goal.at.loop-i-preserved c).In-loop-i) (rw e at c.write_byte-next.ensures)

pub returns : goal.returns
returns c = rw (flags-all c.args.finals c.args.n) (left-none (rw (counted_none (flag_in c.args.finals) c.loop-i.i c.args.n c.loop-i-test.false) at c.loop-i.invariant))
