-- Assembling: what is promised of the bytes that a text was assembled to.
use Rattle.std.specs.Prelude.{◌≡◌, List, ℕ, ◌≤◌, length, take, Result, Ok, Err}
use Rattle.file_fields.specs.declared.Counts.{Counts}
use Rattle.format.specs.Reading.{reading_of}
use Rattle.book_draft.specs.declared.faults.TextFault.{TextFault}
use Rattle.book_assembling.specs.declared.Assembled.{Assembled}

-- the first n bytes of a list are a valid file
pub record ValidFront (out : List ℕ) (n : ℕ) : Type 0 where
  pub inside : n ≤ length out
  pub counts : Counts
  pub valid : reading_of (take n out) ≡ Ok counts

-- where bytes are answered, they stand at the front of the output and are a valid file
abbrev pub AssembledTo : List ℕ → Result Assembled TextFault → Type 0
AssembledTo out (Ok whole) = ValidFront out whole.size
AssembledTo out (Err fault) = Unit {0}
