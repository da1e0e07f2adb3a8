-- PlaceLaws: the place of a byte's letter in a list as a search for it tells it, and whether the letter is listed.
use mathlib.Core.Path.{◌≡◌, refl, sym}
use mathlib.Core.Bool.{Bool, cond, ◌||◌, false, true}
use mathlib.Core.List.{List, [], ◌∷◌}
use Prim.Native.Nat.{ℕ, suc, ◌+◌, ◌<◌, ◌≤◌}
use native.Mathlib.Decide.{dec_lt}
use native.Mathlib.Omega.{arith}
use borrow.Author.Tests.{le-ltb, lt-ltb}
use lib.Dec.{ltb}
use lib.ListN.{length}
use Rattle.std.specs.List.{position, position_or_len}
use Rattle.std.specs.Option.{is_some, unwrap_or}
use Rattle.std.proofs.Common.{Some, None}
use Rattle.std.proofs.lemmas.List.Recursion.{is_position_or_len}
use Rattle.automata.specs.Exploration.{first_or, number}
use Rattle.automata.specs.Letters.{same_key}
use Rattle.automata.specs.Lists.{any}
use Rattle.automata.specs.Words.{place}

-- it is where the first letter stands that is the byte's
place_first : (byte : ℕ) (l : List ℕ) → place l byte ≡ position_or_len (same_key byte) l
unfolding number
place_first byte = is_position_or_len (λ (l : List ℕ). place l byte) (same_key byte) refl (λ x l. go (same_key byte x) (place l byte))
  where
    go : (t : Bool) (n : ℕ) → first_or t n ≡ cond t 0 (1 + n)
    go true n = refl
    go false n = omega arith

-- it is in the list or behind its last letter
pub place_within : (byte : ℕ) (l : List ℕ) → place l byte ≤ length l
unfolding number
place_within byte [] = omega arith
place_within byte (x ∷ l) = go (same_key byte x) (place_within byte l)
  where
    go : (t : Bool) → place l byte ≤ length l → first_or t (place l byte) ≤ suc (length l)
    go true h = omega arith
    go false h = omega arith

-- a letter whose place is in the list is listed, and one whose place is behind it is not
listed-yes : (l : List ℕ) (byte : ℕ) → place l byte < length l → any (same_key byte) l ≡ true
unfolding any number
listed-yes [] byte h = absurd (omega arith)
listed-yes (x ∷ l) byte h = go (same_key byte x) (listed-yes l byte) h
  where
    go : (t : Bool) → (place l byte < length l → any (same_key byte) l ≡ true) → first_or t (place l byte) < suc (length l) → (t || any (same_key byte) l) ≡ true
    go true ih h = refl
    go false ih h = ih (omega arith)

listed-no : (l : List ℕ) (byte : ℕ) → place l byte ≡ length l → any (same_key byte) l ≡ false
unfolding any number
listed-no [] byte h = refl
listed-no (x ∷ l) byte h = go (same_key byte x) (listed-no l byte) h
  where
    go : (t : Bool) → (place l byte ≡ length l → any (same_key byte) l ≡ false) → first_or t (place l byte) ≡ suc (length l) → (t || any (same_key byte) l) ≡ false
    go true ih h = absurd (omega arith)
    go false ih h = ih (omega arith)

module _ (l : List ℕ) (byte : ℕ) where
  -- what a search answers, the place behind the last letter standing for none
  pub place_found : unwrap_or (position (same_key byte) l) (length l) ≡ place l byte
  place_found = rw (← place_first byte l) (go (dec_lt (place l byte) (length l)))
    where
      go : Dec (place l byte < length l) → unwrap_or (cond (ltb (place l byte) (length l)) (Some (place l byte)) None) (length l) ≡ place l byte
      go (yes h) = rw (lt-ltb (place l byte) (length l) h) refl
      go (no h) = rw (le-ltb (place l byte) (length l) (omega arith)) (omega (arith, place_within byte l))

  -- and whether it answers any
  pub listed_found : is_some (position (same_key byte) l) ≡ any (same_key byte) l
  listed_found = rw (← place_first byte l) (go (dec_lt (place l byte) (length l)))
    where
      go : Dec (place l byte < length l) → is_some (cond (ltb (place l byte) (length l)) (Some (place l byte)) None) ≡ any (same_key byte) l
      go (yes h) = rw (lt-ltb (place l byte) (length l) h) (sym (listed-yes l byte h))
      go (no h) = rw (le-ltb (place l byte) (length l) (omega arith)) (sym (listed-no l byte (omega (arith, place_within byte l))))
