use mathlib.Core.Path.{◌≡◌, refl}
use Rattle.std.specs.Prelude.{Err}
use Rattle.file_fields.specs.declared.Refusal.{Refusal}
use Rattle.file_writing.specs.Answers.{told}

-- a refusal tells no length
pub refusal_sizeless : (r : Refusal) → (told (Err r)).size ≡ 0
refusal_sizeless r = refl
