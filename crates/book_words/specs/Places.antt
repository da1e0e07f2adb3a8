-- Places: where the words of the input stand in the buffer that it is read to.
use Rattle.std.specs.Prelude.{◌≡◌, List, ℕ, ◌+◌, ◌-◌, ◌≤◌, ◌<◌, get_or}
use Rattle.book_words.specs.declared.Input.{Input}

-- A word is unread from a place on; up to another it has no line feed; the bytes end at a third, in the buffer.
abbrev pub Standing : ℕ → Input → Type 0
Standing room s = (s.from ≤ s.seen) × ((s.seen ≤ s.to) × (s.to ≤ room))

-- the first line feed, 10, from a place on, and where there is none in front of the end, that end
pub record FirstFeed (text : List ℕ) (from to place : ℕ) : Type 0 where
  pub behind : from ≤ place
  pub within : place ≤ to
  pub none_before : (j : ℕ) → from ≤ j → j < place → get_or text j 0 ≡ 10 → ⊥
  pub feed : place < to → get_or text place 0 ≡ 10

-- the bytes between two places stand at the front
abbrev pub MovedFront : (from to : ℕ) (old new : List ℕ) → Type 0
MovedFront from to old new = (j : ℕ) → j < to - from → get_or new j 0 ≡ get_or old (from + j) 0
