-- Languages: the union, concatenation, intersection and closure of languages, which the joins of automata are to have (document 003,
-- section 3.2). A language is a property of words, of every length.
use Rattle.std.specs.Prelude.{◌≡◌, ◌⊎◌, ℕ, List, [], ◌++◌}

-- a word of P or a word of Q
abbrev pub Union : (P Q : List ℕ → Type 0) → List ℕ → Type 0
Union P Q w = P w ⊎ Q w

-- a word of P and then a word of Q
pub record Concatenation (P Q : List ℕ → Type 0) (w : List ℕ) : Type 0 where
  pub left : List ℕ
  pub right : List ℕ
  pub whole : w ≡ left ++ right
  pub first : P left
  pub second : Q right

-- a word of both
abbrev pub Intersection : (P Q : List ℕ → Type 0) → List ℕ → Type 0
Intersection P Q w = P w × Q w

-- a finite sequence of words of P, none at all included
pub data Star (P : List ℕ → Type 0) : List ℕ → Type 0 where
  nothing : Star P []
  more : {w : List ℕ} (v r : List ℕ) → w ≡ v ++ r → P v → Star P r → Star P w
