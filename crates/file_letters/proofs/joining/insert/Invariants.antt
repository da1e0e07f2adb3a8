-- `file_letters::joining::insert` meets its contract.
use mathlib.Core.Path.{◌≡◌}
use lib.ListN.{length}
use Rattle.relettering.specs.Relettering.{inserted}
use Rattle.file_letters.proofs.JoinLaws.{inserted_from}
use Rattle.file_letters.proofs.joining.insert.Given as goal

abbrev pub invariant-loop-here : goal.invariant-loop-here
invariant-loop-here l = inserted l.byte l.initial.here-items ≡ inserted_from l.here-items (length l.here-items) l.here-index l.carried
