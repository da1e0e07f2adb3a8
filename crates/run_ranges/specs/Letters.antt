-- Letters: what is known of the letters of a file by which words are typed.
use Rattle.std.specs.Prelude.{List, ℕ, ◌≤◌, length}
use Rattle.automata.specs.Counting.{Apart}
use Rattle.automata.specs.Letters.{keys}

-- they are at most 64, and no two are one letter
abbrev pub FewApart : List ℕ → Type 0
FewApart letters = (length letters ≤ 64) × Apart (keys letters)
