-- Letters: which bytes stand for one letter (document 02, change 4). Whatever compares a byte with a letter compares their
-- keys, which are the same just if the bytes stand for one letter (`one-letter` in proofs/Theorems.antt).
use Rattle.std.specs.Prelude.{◌≡◌, ◌⊎◌, ℕ, ◌+◌, ◌≤◌, Bool, cond, not, true, ◌&&◌, List, [], ◌∷◌, map, eqb, leb}
use Rattle.automata.specs.Lists.{any}

-- y is the small letter of the capital x
abbrev pub SmallOf : (x y : ℕ) → Type 0
SmallOf x y = (0x41 ≤ x) × (x ≤ 0x5A) × (y ≡ x + 0x20)

-- bytes stand for one letter if they are the same, or are 41 to 5A and 61 to 7A and differ only in case
abbrev pub OneLetter : (x y : ℕ) → Type 0
OneLetter x y = (x ≡ y) ⊎ (SmallOf x y ⊎ SmallOf y x)

-- ---- computed
-- the key of a byte: of a capital the small letter, else the byte itself
unfoldable pub key : ℕ → ℕ
key byte = cond (leb 0x41 byte && leb byte 0x5A) (byte + 0x20) byte

-- the keys of the bytes of a list
abbrev pub keys : List ℕ → List ℕ
keys l = map key l

-- do two bytes stand for one letter?
abbrev pub same_key : ℕ → ℕ → Bool
same_key x y = eqb (key x) (key y)

-- do no two bytes of a list stand for one letter?
unfoldable pub unlike : List ℕ → Bool
unfolding any key
unlike [] = true
unlike (x ∷ l) = not (any (same_key x) l) && unlike l
