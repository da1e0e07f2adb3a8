-- `table_live::number_letters` meets its contract. The loop's invariant: the first letters have their numbers in the table (LetterTable).
use Prim.Native.Nat.{◌≤◌}
use lib.ListN.{length}
use Rattle.word_layout.specs.Layout.{byte_letters, lettered_end}
use Rattle.word_fields.specs.Frame.{Kept}
use Rattle.table_live.proofs.LetterTable.{Upto}
use Rattle.table_live.proofs.number_letters.Given as goal

abbrev pub invariant-loop-i : goal.invariant-loop-i
invariant-loop-i l = (l.i ≤ length l.letter-items) × (Kept byte_letters lettered_end l.initial.w l.w × Upto l.letter-items l.w l.i)
