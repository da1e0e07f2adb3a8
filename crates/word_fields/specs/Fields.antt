-- Fields: numbers of 16 bits in words of 64, four to a word, the first in the lowest digits.
use Rattle.std.specs.Prelude.{◌≢◌, List, ℕ, ◌+◌, ◌*◌, ◌/◌, ◌%◌, ◌^◌, ◌<◌, get_or}

-- field k of the words from base on
unfoldable pub field : List ℕ → ℕ → ℕ → ℕ
field w base k = get_or w (base + k / 4) 0 / 2 ^ (16 * (k % 4)) % 65536

-- no word holds both one of the first m fields from a on and one of the first n fields from b on
abbrev pub Apart : ℕ → ℕ → ℕ → ℕ → Type 0
Apart a m b n = (i j : ℕ) → i < m → j < n → a + i / 4 ≢ b + j / 4
