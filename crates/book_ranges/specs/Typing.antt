-- Typing: a word as it is typed, by the letters themselves, with `[x-y]` where a letter is only known to lie between two; the bytes that
-- tell its places (document 02, change 7), and what is answered where a text tells none.
use Rattle.std.specs.Prelude.{Bool, cond, ◌&&◌, List, [], ◌∷◌, ◌++◌, ℕ, zero, suc, ◌+◌, ◌-◌, eqb, leb, drop, get_or, length, Option, Some, None, Result, Ok, Err}
use Rattle.file_fields.specs.Letters.{letter_number}
use Rattle.book_ranges.specs.declared.Place.{Place}
use Rattle.book_ranges.specs.declared.NoPlace.{NoPlace}
use Rattle.book_ranges.specs.declared.NoPlace.TheVariants.{Foreign, NoRange}
use Rattle.book_ranges.specs.declared.Unread.{Unread}
use Rattle.book_ranges.specs.declared.Unread.TheVariants.{NoLetter, NoRange as NoRangeAt}

-- ---- what stands at the front of a text
-- a letter by itself is the place of that letter alone, of one byte; a byte that is no letter is none
abbrev pub single : Option ℕ → Result Place NoPlace
single (Some l) = Ok (record { low = l; high = l; taken = 1 })
single None = Err Foreign

-- a range with these bounds, of five bytes
abbrev pub range_between : (low high : Option ℕ) → Result Place NoPlace
range_between (Some l) (Some h) = Ok (record { low = l; high = h; taken = 5 })
range_between (Some l) None = Err NoRange
range_between None high = Err NoRange

-- five bytes that begin with a `[` are a range if they are `[`, the lowest letter, `-`, the highest letter, `]`, whatever the letters are
abbrev pub is_shaped : List ℕ → Bool
is_shaped text = leb 5 (length text) && eqb (get_or text 2 0) 0x2D && eqb (get_or text 4 0) 0x5D

-- a `[` at the front: a range, if its bytes are one's
abbrev pub range_front : (letters text : List ℕ) → Result Place NoPlace
range_front letters text = cond (is_shaped text) (range_between (letter_number letters (get_or text 1 0)) (letter_number letters (get_or text 3 0))) (Err NoRange)

-- a `[` always begins a range
abbrev pub place_front : (letters text : List ℕ) → Result Place NoPlace
place_front letters text = cond (eqb (get_or text 0 0) 0x5B) (range_front letters text) (single (letter_number letters (get_or text 0 0)))

-- ---- the whole text
-- a place, and the rest behind its bytes; behind anything else nothing is read
abbrev pub place_then : Result Place NoPlace → (ℕ → List (Result Place NoPlace)) → List (Result Place NoPlace)
place_then (Ok place) rest = Ok place ∷ rest place.taken
place_then (Err why) rest = Err why ∷ []

-- what stands in a text, from left to right, up to the first that is no place; `skipped` bytes at its front are still of the place before it
unfoldable pub places_from : (letters : List ℕ) (skipped : ℕ) → List ℕ → List (Result Place NoPlace)
places_from letters skipped [] = []
places_from letters (suc k) (b ∷ text) = places_from letters k text
places_from letters zero (b ∷ text) = place_then (place_front letters (b ∷ text)) (λ taken. places_from letters (taken - 1) text)

-- what stands in a whole text
abbrev pub places_of : (letters text : List ℕ) → List (Result Place NoPlace)
places_of letters text = places_from letters 0 text

-- ---- what is written and answered
-- two bytes for each place, low then high
unfoldable pub bytes_of : List (Result Place NoPlace) → List ℕ
bytes_of [] = []
bytes_of (Ok place ∷ rest) = place.low ∷ place.high ∷ bytes_of rest
bytes_of (Err why ∷ rest) = []

-- bytes written to the front of others
abbrev pub in_front : (bytes before : List ℕ) → List ℕ
in_front bytes before = bytes ++ drop (length bytes) before

-- how many bytes tell the places, of which `told` are told already; or what is no place. The first stands at byte `at` of the text
unfoldable pub answer_from : (at told : ℕ) → List (Result Place NoPlace) → Result ℕ Unread
answer_from at told [] = Ok told
answer_from at told (Ok place ∷ rest) = answer_from (at + place.taken) (told + 2) rest
answer_from at told (Err Foreign ∷ rest) = Err NoLetter
answer_from at told (Err NoRange ∷ rest) = Err (NoRangeAt at)

-- the answer; bytes of the text are counted from 1
unfoldable pub typed_of : (letters text : List ℕ) → Result ℕ Unread
unfolding places_from answer_from
typed_of letters text = answer_from 1 0 (places_of letters text)
