-- `file_letters::joining::count_joined` meets its contract.
use mathlib.Core.Path.{ap, ◌∙◌}
use Prim.Native.Nat.{ℕ, ◌+◌}
use lib.ListN.{length}
use Rattle.file_letters.proofs.JoinLaws.{joined-count}
use Rattle.file_letters.proofs.joining.count_joined.Goals as goal

pub returns : goal.returns
returns c = ap (λ (n : ℕ). length c.args.first.now + n) c.count_new.ensures ∙ joined-count c.args.first.now c.args.second.now
