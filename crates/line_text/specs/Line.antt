-- Line: a line of text is its fields with one space between, then a newline (document 01, `bookcompare`).
use Rattle.std.specs.Prelude.{ℕ, zero, suc, List, [], ◌∷◌, ◌++◌}
use Prim.Native.Char.{code}
use Prim.Native.String.{String, len, char_at}

-- so many characters of a word from a place on, each as its ASCII code
abbrev pub ascii_from : ℕ → ℕ → String → List ℕ
ascii_from at zero word = []
ascii_from at (suc n) word = code (char_at word at) ∷ ascii_from (suc at) n word

-- a word in ASCII
abbrev pub ascii : String → List ℕ
ascii word = ascii_from 0 (len word) word

-- a line of these fields: 32 is the space, 10 the newline
abbrev pub line : List (List ℕ) → List ℕ
line [] = 10 ∷ []
line (field ∷ []) = field ++ (10 ∷ [])
line (field ∷ next ∷ fields) = field ++ (32 ∷ line (next ∷ fields))
