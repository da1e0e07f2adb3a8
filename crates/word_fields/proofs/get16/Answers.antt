-- `word_fields::get16` meets its contract, by the definition of a field.
use native.Mathlib.Omega.{arith}
use mathlib.Core.Path.{refl}
use Rattle.word_fields.specs.Fields.{field}
use Rattle.word_fields.proofs.get16.Goals as goal

pub returns : goal.returns
unfolding field
returns c = (refl, omega arith)
