-- `file_arc_writing::write_fields` meets its contract.
use mathlib.Core.List.{[], ◌∷◌}
use native.Mathlib.Numerals.{add-one, add-two, add-three}
use Rattle.file_writing.proofs.Laws.{stored}
use Rattle.file_arc_writing.proofs.write_fields.Goals as goal

pub returns : goal.returns
returns c = rw (add-one, add-two, add-three) (stored (c.args.f.source ∷ c.args.f.letter ∷ c.args.f.target ∷ c.args.p ∷ []) c.args.out.now c.args.at c.requires.2)
