-- Examples: some texts over the letters c, e and m, whose numbers are 0, 1 and 2, computed.
use mathlib.Core.Path.{◌≡◌, refl}
use mathlib.Core.List.{List, [], ◌∷◌, map}
use Prim.Native.Nat.{ℕ}
use Rattle.automata.specs.Letters.{key}
use Rattle.automata.specs.Words.{letter_with}
use Rattle.std.specs.Prelude.{Ok, Err}
use Rattle.book_ranges.specs.declared.Unread.TheVariants.{NoLetter, NoRange}
use Rattle.book_ranges.specs.Typing.{bytes_of, places_from, places_of, typed_of}

abbrev letters : List ℕ
letters = 0x63 ∷ 0x65 ∷ 0x6D ∷ []

-- c[c-m]E; no text; cx[; c[cx; [m-c]; a `-` or a `]` is another byte
abbrev texts : List (List ℕ)
texts =
    (0x63 ∷ 0x5B ∷ 0x63 ∷ 0x2D ∷ 0x6D ∷ 0x5D ∷ 0x45 ∷ [])
    ∷ []
    ∷ (0x63 ∷ 0x78 ∷ 0x5B ∷ [])
    ∷ (0x63 ∷ 0x5B ∷ 0x63 ∷ 0x78 ∷ [])
    ∷ (0x5B ∷ 0x6D ∷ 0x2D ∷ 0x63 ∷ 0x5D ∷ [])
    ∷ (0x5B ∷ 0x6D ∷ 0x2C ∷ 0x63 ∷ 0x5D ∷ [])
    ∷ (0x5B ∷ 0x6D ∷ 0x2D ∷ 0x63 ∷ 0x29 ∷ [])
    ∷ []

typed_texts : map (typed_of letters) texts ≡ Ok 6 ∷ Ok 0 ∷ Err NoLetter ∷ Err (NoRange 2) ∷ Ok 2 ∷ Err (NoRange 1) ∷ Err (NoRange 1) ∷ []
unfolding typed_of letter_with key
typed_texts = refl

typed_bytes : map (λ text. bytes_of (places_of letters text)) texts ≡ (0 ∷ 0 ∷ 0 ∷ 2 ∷ 1 ∷ 1 ∷ []) ∷ [] ∷ (0 ∷ 0 ∷ []) ∷ (0 ∷ 0 ∷ []) ∷ (2 ∷ 0 ∷ []) ∷ [] ∷ [] ∷ []
unfolding bytes_of places_from letter_with key
typed_bytes = refl

-- the letter `[`, typed as a range, where the list has it and a
bracket : bytes_of (places_of (0x5B ∷ 0x61 ∷ []) (0x5B ∷ 0x5B ∷ 0x2D ∷ 0x5B ∷ 0x5D ∷ [])) ≡ 0 ∷ 0 ∷ []
unfolding bytes_of places_from letter_with key
bracket = refl
