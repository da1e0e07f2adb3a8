-- Lines: the line that tells an answer, as the program `cases` prints it.
-- Each is a word for the kind of answer, then document 01's values of it, with one space between.
use Rattle.std.specs.Prelude.{ℕ, List, [], ◌∷◌, Err, Ok, Result, take}
use Rattle.line_text.specs.Digits.{decimal_of, hex_of}
use Rattle.line_text.specs.Line.{ascii, line}
use Rattle.file_fields.specs.declared.Counts.{Counts}
use Rattle.file_fields.specs.declared.Fault.{Fault}
use Rattle.file_fields.specs.declared.Refusal.{Refusal}
use Rattle.file_fields.specs.Parts.{automaton_number, number_of}
use Rattle.table.specs.declared.Membership.{Membership}
use Rattle.table.specs.declared.Membership.TheVariants.{Accepted, Rejected}

-- a refusal: a word for it, its number, and the automaton at fault
abbrev pub refusal_line : List ℕ → ℕ → ℕ → List ℕ
refusal_line answer number automaton = line (answer ∷ decimal_of number ∷ decimal_of automaton ∷ [])

-- with the word that `cases` prints; `bookcompare` has one in capitals
abbrev pub refused_line : ℕ → ℕ → List ℕ
refused_line number automaton = refusal_line (ascii "refused") number automaton

-- a valid file: the counts of its header, in the order of the file
abbrev pub valid_line : Counts → List ℕ
valid_line c =
    line (ascii "valid" ∷ decimal_of c.letters ∷ decimal_of c.states ∷ decimal_of c.registers
    ∷ decimal_of c.symbols ∷ decimal_of c.arcs ∷ [])

-- what reading a file answers; the one file handed in is automaton 1
abbrev pub reading_line : Result Counts Fault → List ℕ
reading_line (Ok c) = valid_line c
reading_line (Err f) = refused_line (number_of f.reason) 1

-- a word for the answer, and a number
abbrev pub count_line : List ℕ → ℕ → List ℕ
count_line answer n = line (answer ∷ decimal_of n ∷ [])

-- what membership answers; the number is that of the configurations live after the word
abbrev pub membership_line : Result Membership Refusal → List ℕ
membership_line (Ok (Accepted n)) = count_line (ascii "taken") n
membership_line (Ok (Rejected n)) = count_line (ascii "not") n
membership_line (Err r) = refused_line (number_of r.reason) (automaton_number r.automaton)

-- a file that was written: the n bytes at the front of the output, or all where there are fewer
abbrev pub wrote_line : List ℕ → ℕ → List ℕ
wrote_line file n = line (ascii "wrote" ∷ hex_of (take n file) ∷ [])

-- what a call that writes a file answers; `file` is the output afterwards
abbrev pub written_line : Result ℕ Refusal → List ℕ → List ℕ
written_line (Ok n) file = wrote_line file n
written_line (Err r) file = refused_line (number_of r.reason) (automaton_number r.automaton)
