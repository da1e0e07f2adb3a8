-- Wanted: what is wanted of a file, in the order of reading, each with the number of the fault and its place where it is not so (document
-- 01, 'The book file' and its refusals; document 02, changes 4 and 5). These are statements about bytes, apart from the tests that
-- reading's contract computes (format's specs/Reading.antt). Only where a part stands is told as there (file_fields' specs/Parts.antt),
-- since decoding goes by it too, and which bytes stand for one letter (`key`, which automata's theorem one-letter holds in place).
use Rattle.std.specs.Prelude.{◌≡◌, ◌⊎◌, ◌%◌, ◌*◌, ◌+◌, ◌/◌, ◌<◌, ◌≤◌, suc, zero, ℕ, drop, get_or, length}
use mathlib.Core.List.{List, Memᴰ, [], ◌++◌, ◌∷◌, map}
use Rattle.automata.specs.Letters.{key, keys}
use Rattle.file_fields.specs.declared.Counts.{Counts}
use Rattle.file_fields.specs.Parts.{arc_size, counts_of, first_arc, flag_bytes, flags_at, letter_bytes}

-- a number from the first to the second
abbrev pub Within : ℕ → ℕ → ℕ → Type 0
Within low high n = (low ≤ n) × (n ≤ high)

-- the header: 12 bytes; the mark MLB; version 1; counts in their ranges
abbrev pub header_wants : List ℕ → List (Type 0 × ℕ × ℕ)
header_wants s =
    (12 ≤ length s, 1, 0)
    ∷ ((get_or s 0 0 ≡ 0x4D) × (get_or s 1 0 ≡ 0x4C) × (get_or s 2 0 ≡ 0x42), 2, 0)
    ∷ (get_or s 3 0 + 256 * get_or s 4 0 ≡ 1, 3, 3)
    ∷ ((counts_of s).letters ≤ 64, 4, 5)
    ∷ (Within 1 256 (counts_of s).states, 4, 6)
    ∷ (Within 1 8 (counts_of s).registers, 4, 8)
    ∷ (Within 1 16 (counts_of s).symbols, 4, 9)
    ∷ ((counts_of s).arcs ≤ 2048, 4, 10)
    ∷ []

-- letters, the first of which stands at the place `at`: each is above the one before it
unfoldable pub each_letter : (at : ℕ) → List ℕ → List (Type 0 × ℕ × ℕ)
each_letter at [] = []
each_letter at (x ∷ []) = []
each_letter at (x ∷ y ∷ l) = (x < y, 5, at + 1) ∷ each_letter (at + 1) (y ∷ l)

-- and none is the same letter as one behind it, in the other case (document 02, change 4)
unfoldable pub each_unlike : (at : ℕ) → List ℕ → List (Type 0 × ℕ × ℕ)
each_unlike at [] = []
each_unlike at (x ∷ l) = (¬ Memᴰ (key x) (keys l), 5, at) ∷ each_unlike (at + 1) l

-- the letters: all there before any is looked at
abbrev pub letter_wants : Counts → List ℕ → List (Type 0 × ℕ × ℕ)
letter_wants c s = (flags_at c ≤ length s, 1, 12) ∷ each_letter 12 (letter_bytes c s)

-- and no letter in both cases
abbrev pub case_wants : Counts → List ℕ → List (Type 0 × ℕ × ℕ)
case_wants c s = each_unlike 12 (letter_bytes c s)

-- flags, the first of which stands at the place `at`: each is 00 or 01
unfoldable pub each_flag : (at : ℕ) → List ℕ → List (Type 0 × ℕ × ℕ)
each_flag at [] = []
each_flag at (x ∷ l) = (x ≤ 1, 6, at) ∷ each_flag (at + 1) l

-- the flags: all there before any is looked at
abbrev pub flag_wants : Counts → List ℕ → List (Type 0 × ℕ × ℕ)
flag_wants c s = (first_arc c ≤ length s, 1, flags_at c) ∷ each_flag (flags_at c) (flag_bytes c s)

-- an operation's two bytes, kind times 16 plus register and a symbol: it reads or writes, its register and its symbol are there, and at
-- register 0 it is the read of 0
pub record IsOperation (c : Counts) (x y : ℕ) : Type 0 where
  pub kind : x / 16 ≤ 1
  pub register : x % 16 < c.registers
  pub symbol : y < c.symbols
  pub zero_kept : x % 16 ≡ 0 → (x / 16 ≡ 0) × (y ≡ 0)

-- p operations at the front of l, which stands at the place `at`
unfoldable pub each_operation : (c : Counts) (p at : ℕ) → List ℕ → List (Type 0 × ℕ × ℕ)
each_operation c zero at l = []
each_operation c (suc p) at l = (IsOperation c (get_or l 0 0) (get_or l 1 0), 8, at) ∷ each_operation c p (at + 2) (drop 2 l)

-- an arc at the front of l, which stands at the place `at`: 4 bytes; its from-state, letter (FF is the empty move), to-state and number of
-- operations; 2 bytes for each operation; the operations
abbrev pub arc_wants : (c : Counts) (at : ℕ) → List ℕ → List (Type 0 × ℕ × ℕ)
arc_wants c at l =
    (4 ≤ length l, 1, at)
    ∷ (get_or l 0 0 < c.states, 7, at)
    ∷ ((get_or l 1 0 ≡ 0xFF) ⊎ (get_or l 1 0 < c.letters), 32, at + 1)
    ∷ (get_or l 2 0 < c.states, 33, at + 2)
    ∷ (Within 1 8 (get_or l 3 0), 34, at + 3)
    ∷ (4 + 2 * get_or l 3 0 ≤ length l, 1, at + 4)
    ∷ each_operation c (get_or l 3 0) (at + 4) (drop 4 l)

-- m arcs at the front of l, and no byte behind them
unfoldable pub each_arc : (c : Counts) (m at : ℕ) → List ℕ → List (Type 0 × ℕ × ℕ)
unfolding each_operation
each_arc c zero at l = (length l ≡ 0, 9, at) ∷ []
each_arc c (suc m) at l = arc_wants c at l ++ each_arc c m (at + arc_size l) (drop (arc_size l) l)

-- the whole file
abbrev pub wanted : List ℕ → List (Type 0 × ℕ × ℕ)
wanted s = let c = counts_of s in header_wants s ++ (letter_wants c s ++ (case_wants c s ++ (flag_wants c s ++ each_arc c c.arcs (first_arc c) (drop (first_arc c) s))))

-- its faults: each thing wanted that is not so
abbrev pub faults : List ℕ → List (Type 0 × ℕ × ℕ)
faults s = map (λ (w : Type 0 × ℕ × ℕ). (¬ w.0, w.1, w.2)) (wanted s)

-- their numbers: document 01's 1 to 9, document 02's 32 to 34 (change 5)
abbrev pub fault_numbers : List ℕ
fault_numbers = 1 ∷ 2 ∷ 3 ∷ 4 ∷ 5 ∷ 6 ∷ 7 ∷ 8 ∷ 9 ∷ 32 ∷ 33 ∷ 34 ∷ []
