-- Letters: the list of letters, each in its place by its byte.
use Rattle.std.specs.Prelude.{◌≡◌, ◌≤◌, ◌<◌, ℕ, List, All, length, take, get_or, insert}

-- the new letters are the old ones and one more, behind those that are not above it and in front of the first that is
abbrev pub IsInserted : (old new : List ℕ) → Type 0
IsInserted old new =
    (letter : ℕ) × (place : ℕ) × (place ≤ length old)
    × All (λ x. x ≤ letter) (take place old)
    × (place < length old → letter < get_or old place 0)
    × (new ≡ insert old place letter)
