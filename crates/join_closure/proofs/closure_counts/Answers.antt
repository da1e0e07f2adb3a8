-- `join_closure::closure_counts` meets its contract.
use Rattle.join_closure.proofs.ClosureBytes.{closure-counts}
use Rattle.join_closure.proofs.closure_counts.Goals as goal

pub returns : goal.returns
returns c = λ x p q. rw (← p, ← q) (closure-counts x)
