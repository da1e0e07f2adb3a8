-- Reading: what reading a file answers, its counts or the number and the place of its first fault.
-- Renders document 01, 'The book file' and 'Refused because of what was handed in' where it speaks of one file, with document 02, changes
-- 4 and 5: the tests of a file in the order of reading, which is left to right, each part there whole before any of it is looked at.
use Rattle.std.specs.Prelude.{Bool, List, ◌++◌, ℕ, drop}
use Rattle.automata.specs.Letters.{unlike}
use Rattle.file_fields.specs.declared.Counts.{Counts}
use Rattle.file_fields.specs.declared.Fault.{Fault}
use Rattle.file_fields.specs.declared.Reason.{Reason}
use Rattle.std.specs.Prelude.{Result, Ok, Err}
use Rattle.file_fields.specs.Parts.{header_tests, counts_of, letter_tests, flag_tests, arcs_tests, first_arc, ascending, ascending_front, unlike_front, flags, flags_front, first_fault, number_of}

-- the header, the letters and the final flags
abbrev pub front_tests : List ℕ → List (Bool × Reason × ℕ)
front_tests s = header_tests s ++ (letter_tests (counts_of s) s ++ flag_tests (counts_of s) s)

-- and then the arcs
abbrev pub file_tests : List ℕ → List (Bool × Reason × ℕ)
file_tests s = let c = counts_of s in front_tests s ++ arcs_tests c.arcs c (first_arc c) (drop (first_arc c) s)

-- the counts of a file all of whose tests hold, else the number and the place of the first that fails
unfoldable pub reading_of : List ℕ → Result Counts Fault
unfolding ascending ascending_front unlike unlike_front flags flags_front arcs_tests first_fault
reading_of s = first_fault (file_tests s) (counts_of s)

-- an answer as document 01 tells it: the number of the refusal and the automaton at fault, 1 in a call with one file, each 0 where
-- there is none; the place of the fault; the counts of a valid file
pub record Told : Type 0 where
  pub number : ℕ
  pub at_fault : ℕ
  pub place : ℕ
  pub counts : Counts

-- what an answer tells; the counts are 0 where the file has a fault
abbrev pub told : Result Counts Fault → Told
told (Ok c) = record { number = 0; at_fault = 0; place = 0; counts = c }
told (Err f) =
    record { number = number_of f.reason; at_fault = 1; place = f.place; counts = record { letters = 0; states = 0; registers = 0; symbols = 0; arcs = 0 } }
