-- `unfold::flags::write_flags` meets its contract. The loop's invariant: the flags from number i on are left to be written.
use Rattle.file_writing.proofs.Laws.{Left}
use Rattle.unfold.proofs.FlagBytes.{flags_from}
use Rattle.unfold.proofs.flags.write_flags.Given as goal

abbrev pub invariant-loop-i : goal.invariant-loop-i
invariant-loop-i l = Left l.at (flags_from l.finals 0 l.n) l.initial.out l.next (flags_from l.finals l.i l.n) l.out
