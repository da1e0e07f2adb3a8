-- Told: where a text is a word, as many bytes are told as tell its places, and these stand at the front of what was written.
use mathlib.Core.Path.{◌≡◌, sym, ap, ◌∙◌}
use mathlib.Core.List.{List, [], ◌∷◌}
use Prim.Native.Nat.{ℕ, ◌+◌, ◌≤◌}
use native.Mathlib.Omega.{arith}
use lib.ListN.{drop, length, length-append}
use Rattle.book_ranges.specs.declared.Place.{Place}
use Rattle.std.specs.Prelude.{Result, Ok, Err}
use Rattle.book_ranges.specs.declared.NoPlace.{NoPlace}
use Rattle.book_ranges.specs.declared.NoPlace.TheVariants.{Foreign, NoRange}
use Rattle.book_ranges.specs.declared.Unread.{Unread}
use Rattle.book_ranges.specs.Typing.{answer_from, bytes_of, in_front, places_of, typed_of}

told-bytes : (at told : ℕ) (places : List (Result Place NoPlace)) {n : ℕ} → answer_from at told places ≡ Ok n → n ≡ told + length (bytes_of places)
unfolding answer_from bytes_of
told-bytes at told [] {n} e = let same : told ≡ n = cc in omega arith
told-bytes at told (Ok place ∷ rest) e = omega (arith, told-bytes (at + place.taken) (told + 2) rest e)
told-bytes at told (Err Foreign ∷ rest) e = let z : ◌≡◌ {A = ℕ} 0 1 = cc in absurd (omega arith)
told-bytes at told (Err NoRange ∷ rest) e = let z : ◌≡◌ {A = ℕ} 0 1 = cc in absurd (omega arith)

pub told-most : (letters text before after : List ℕ) (r : Result ℕ Unread) {n : ℕ} → r ≡ typed_of letters text → after ≡ in_front (bytes_of (places_of letters text)) before → r ≡ Ok n → n ≤ length after
unfolding typed_of
told-most letters text before after r {n} answer written e =
    let bytes = bytes_of (places_of letters text) in
    let all = ap length written ∙ length-append bytes (drop (length bytes) before) in
    omega (arith, told-bytes 1 0 (places_of letters text) (sym answer ∙ e), all)
