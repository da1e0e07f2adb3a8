-- Answers: what the answer of a call that writes a file tells: the length of the file in bytes, or the refusal.
use Rattle.std.specs.Prelude.{List, ◌++◌, ℕ, Err, Ok, Result, length, drop}
use Rattle.file_fields.specs.declared.Refusal.{Refusal}
use Rattle.file_fields.specs.Parts.{automaton_number, number_of}

-- the number of the refusal and the automaton at fault, each 0 where there is none; the size of the file written in bytes
pub record Told : Type 0 where
  pub number : ℕ
  pub at_fault : ℕ
  pub size : ℕ

-- what an answer tells
abbrev pub told : Result ℕ Refusal → Told
told (Ok n) = record { number = 0; at_fault = 0; size = n }
told (Err r) = record { number = number_of r.reason; at_fault = automaton_number r.automaton; size = 0 }

-- the output afterwards, where the file was to be written into `old`: on success the file and the bytes behind it as lent,
-- on refusal all as lent
abbrev pub output_of : Result ℕ Refusal → List ℕ → List ℕ → List ℕ
output_of (Ok n) file old = file ++ drop (length file) old
output_of (Err r) file old = old
