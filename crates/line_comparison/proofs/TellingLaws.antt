-- TellingLaws: the lines of `bookcompare` and of `cases` are one line in two sets of words.
use Rattle.std.proofs.Common.{◌≡◌, List, ℕ, refl}
use Rattle.line_text.specs.Line.{ascii}
use Rattle.line_comparison.specs.ComparisonLines.{comparison_case_line, comparison_line, told_line}
use Rattle.compare_promise.specs.declared.Comparison.{Comparison}
use Rattle.compare_promise.specs.declared.Comparison.TheVariants.{Different, Refused, Same}

pub answer_told : (r : Comparison) (word : List ℕ) → told_line (ascii "SAME") (ascii " -\n") (ascii "TAKES1") (ascii "TAKES2") (ascii "REFUSED") r word ≡ comparison_line r word
answer_told (Same pairs) word = refl
answer_told (Different pairs taker n) word = refl
answer_told (Refused r) word = refl

pub case_told : (r : Comparison) (word : List ℕ) → told_line (ascii "same") (ascii "\n") (ascii "takes1") (ascii "takes2") (ascii "refused") r word ≡ comparison_case_line r word
case_told (Same pairs) word = refl
case_told (Different pairs taker n) word = refl
case_told (Refused r) word = refl
