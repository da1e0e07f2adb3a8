-- RangeLines: the line that tells what is answered of a word with ranges, as the program `cases` prints it (document 02, change 7).
use Rattle.std.specs.Prelude.{List, [], ◌∷◌, ℕ, Err, Ok, Result}
use Rattle.line_text.specs.Line.{ascii, line}
use Rattle.line_answers.specs.Lines.{refused_line}
use Rattle.file_fields.specs.declared.Refusal.{Refusal}
use Rattle.file_fields.specs.Parts.{automaton_number, number_of}
use Rattle.ranges_promise.specs.declared.Fillings.{Fillings}
use Rattle.ranges_promise.specs.declared.Fillings.TheVariants.{Always, Never, Sometimes}

-- a word for which of the three it is, or the refusal
abbrev pub ranged_line : Result Fillings Refusal → List ℕ
ranged_line (Ok Always) = line (ascii "always" ∷ [])
ranged_line (Ok Sometimes) = line (ascii "sometimes" ∷ [])
ranged_line (Ok Never) = line (ascii "never" ∷ [])
ranged_line (Err r) = refused_line (number_of r.reason) (automaton_number r.automaton)
