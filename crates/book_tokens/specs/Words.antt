-- Words: where a word of a text stands.
use Rattle.std.specs.Prelude.{List, ℕ, ◌≤◌, min, length}
use Rattle.book_tokens.specs.declared.Word.{Word}

-- a word inside the text, not in front of the place from which it was looked for
pub record WordFrom (text : List ℕ) (at : ℕ) (word : Word) : Type 0 where
  pub behind : min at (length text) ≤ word.from
  pub ordered : word.from ≤ word.to
  pub inside : word.to ≤ length text
