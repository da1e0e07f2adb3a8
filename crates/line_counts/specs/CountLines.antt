-- CountLines: the line that tells what counting the words of one length answers, as the program `cases` prints it (document 02, change 2).
use Rattle.std.specs.Prelude.{List, [], ◌∷◌, ℕ, Err, Ok, Result}
use Rattle.line_text.specs.Digits.{decimal_of}
use Rattle.line_text.specs.Line.{ascii, line}
use Rattle.line_answers.specs.Lines.{refused_line}
use Rattle.count_promise.specs.declared.WordCount.{WordCount}
use Rattle.file_fields.specs.declared.Refusal.{Refusal}
use Rattle.file_fields.specs.Parts.{automaton_number, number_of}

-- the number of words that are accepted, then that of the words that are not
abbrev pub counted_line : ℕ → ℕ → List ℕ
counted_line accepted rejected = line (ascii "counted" ∷ decimal_of accepted ∷ decimal_of rejected ∷ [])

-- what counting answers
abbrev pub word_count_line : Result WordCount Refusal → List ℕ
word_count_line (Ok n) = counted_line n.accepted n.rejected
word_count_line (Err r) = refused_line (number_of r.reason) (automaton_number r.automaton)
