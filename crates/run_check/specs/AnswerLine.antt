-- AnswerLine: the line of one word's answer.
use Rattle.std.specs.Prelude.{ℕ, List, [], ◌∷◌, ◌++◌}
use Rattle.line_text.specs.Digits.{decimal_of}

-- the answer, with the space behind it; how many configurations are live; a space, 32; the word as it was read; a line feed, 10
abbrev pub answer_line : List ℕ → ℕ → List ℕ → List ℕ
answer_line answer live word = answer ++ (decimal_of live ++ ((32 ∷ []) ++ (word ++ (10 ∷ []))))
