-- `join_concatenation::concatenation_counts` meets its contract.
use mathlib.Core.Path.{ap}
use native.Mathlib.Omega.{arith}
use Rattle.file_fields.specs.declared.Counts.{Counts}
use Rattle.join_concatenation.proofs.ConcatenationBytes.{concatenation-roomy-counts}
use Rattle.join_concatenation.proofs.concatenation_counts.Goals as goal

pub returns : goal.returns
returns c = λ x y p f q. rw (c.max.ensures, ← p, ← q) (concatenation-roomy-counts x y _ (omega (arith, ap (λ (d : Counts). d.letters) p)) f)
