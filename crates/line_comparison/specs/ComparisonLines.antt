-- ComparisonLines: the line that tells what comparing answers (document 01, `bookcompare`), and that of the program `cases`.
use Rattle.std.specs.Prelude.{cond, List, [], ◌∷◌, ◌++◌, ℕ, eqb, take}
use Rattle.file_fields.specs.Parts.{automaton_number, number_of}
use Rattle.line_text.specs.Digits.{decimal_of, hex_of}
use Rattle.line_text.specs.Line.{ascii, line}
use Rattle.line_answers.specs.Lines.{count_line, refusal_line, refused_line}
use Rattle.compare_promise.specs.Comparing.{comparison_of, shown_word}
use Rattle.compare_promise.specs.declared.Comparison.{Comparison}
use Rattle.compare_promise.specs.declared.Comparison.TheVariants.{Different, Refused, Same}

-- ---- a difference
-- the word for it, the number of pairs, and the shown word in hexadecimal: the n bytes at the front of `word`, or all where there
-- are fewer
abbrev pub different_line : List ℕ → ℕ → List ℕ → ℕ → List ℕ
different_line answer pairs word n = line (answer ∷ decimal_of pairs ∷ hex_of (take n word) ∷ [])

-- the word for it says which automaton accepts the shown word: `one`, or `two`
abbrev pub taker_line : List ℕ → List ℕ → ℕ → ℕ → List ℕ → ℕ → List ℕ
taker_line one two taker pairs word n = different_line (cond (eqb taker 1) one two) pairs word n

-- ---- the line in any words
-- the two accept the same words: the word for it, the number of pairs, and what ends the line
abbrev pub same_told : List ℕ → ℕ → List ℕ → List ℕ
same_told answer pairs end = answer ++ (32 ∷ (decimal_of pairs ++ end))

-- what comparing answers, with these words for its kinds, and what ends a line of the first kind
abbrev pub told_line : (same end first second refused : List ℕ) → Comparison → List ℕ → List ℕ
told_line same end first second refused (Same pairs) word = same_told same pairs end
told_line same end first second refused (Different pairs taker n) word = taker_line first second taker pairs word n
told_line same end first second refused (Refused r) word = refusal_line refused (number_of r.reason) (automaton_number r.automaton)

-- ---- the line of `bookcompare`: three fields
abbrev pub same_line : ℕ → List ℕ
same_line pairs = line (ascii "SAME" ∷ decimal_of pairs ∷ ascii "-" ∷ [])

-- the answer; the number of pairs, or that of the refusal; `-`, or the shown word, or the automaton at fault
abbrev pub comparison_line : Comparison → List ℕ → List ℕ
comparison_line (Same pairs) word = same_line pairs
comparison_line (Different pairs taker n) word = taker_line (ascii "TAKES1") (ascii "TAKES2") taker pairs word n
comparison_line (Refused r) word = refusal_line (ascii "REFUSED") (number_of r.reason) (automaton_number r.automaton)

-- ---- the line of `cases`
abbrev pub comparison_case_line : Comparison → List ℕ → List ℕ
comparison_case_line (Same pairs) word = count_line (ascii "same") pairs
comparison_case_line (Different pairs taker n) word = taker_line (ascii "takes1") (ascii "takes2") taker pairs word n
comparison_case_line (Refused r) word = refused_line (number_of r.reason) (automaton_number r.automaton)

-- ---- from two files to the line
-- the line of two files, where working memory and the buffer for the shown word have the sizes that comparing asks for
abbrev pub line_of : (first second : List ℕ) → List ℕ
line_of first second = comparison_line (comparison_of first second 8192 512) (shown_word first second)
