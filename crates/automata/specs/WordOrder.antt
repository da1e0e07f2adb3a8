-- WordOrder: words in order, by their length and then by the places of their letters in the letter list, and the first of the words
-- that have a property (change 1 of document 02). A letter's number is its place, so words that are given by numbers are compared as they stand.
use Rattle.std.specs.Prelude.{◌≡◌, ◌⊎◌, ℕ, ◌<◌, List, [], ◌∷◌, length}
use Rattle.automata.specs.Words.{places}

-- at the first place where the two differ, v has the lower letter
abbrev pub Lower : List ℕ → List ℕ → Type 0
Lower [] w = ⊥
Lower (x ∷ v) [] = ⊥
Lower (x ∷ v) (y ∷ w) = (x < y) ⊎ ((x ≡ y) × Lower v w)

-- v comes before w: it is shorter, or as long and lower
abbrev pub Before : List ℕ → List ℕ → Type 0
Before v w = (length v < length w) ⊎ ((length v ≡ length w) × Lower v w)

-- the same of words that are given by their bytes
abbrev pub BeforeIn : (alphabet v w : List ℕ) → Type 0
BeforeIn alphabet v w = Before (places alphabet v) (places alphabet w)

-- v is the first word that has the property P, in an order of words: it has P, and no word that has it comes before v
pub record Earliest (Sooner : List ℕ → List ℕ → Type 0) (P : List ℕ → Type 0) (v : List ℕ) : Type 0 where
  pub has : P v
  pub first : (w : List ℕ) → P w → ¬ Sooner w v
