-- `join_union::union_counts` meets its contract.
use mathlib.Core.Path.{ap}
use native.Mathlib.Omega.{arith}
use Rattle.file_fields.specs.declared.Counts.{Counts}
use Rattle.join_union.proofs.UnionBytes.{union-roomy-counts}
use Rattle.join_union.proofs.union_counts.Goals as goal

pub returns : goal.returns
returns c = λ x y p q. rw (c.max.ensures, c.max-2.ensures, ← p, ← q) (union-roomy-counts x y _ (omega (arith, ap (λ (d : Counts). d.letters) p)))
