-- Parts: the tests of the parts of a file, each with the number of the fault where it fails and its place, in bytes from the file's
-- start; and what the first that fails answers. Where the file ends inside a part, the place is where that part begins.
-- Renders document 01, 'The book file' and 'Refused because of what was handed in' where it speaks of one file, with document 02, changes
-- 4 and 5; format's specs/Reading.antt puts the parts together.
use Rattle.std.specs.Prelude.{Bool, true, not, cond, ◌||◌, ◌&&◌, List, [], ◌∷◌, ◌++◌, ℕ, zero, suc, ◌+◌, ◌*◌, ◌/◌, ◌%◌, eqb, ltb, leb, length, get_or, drop, take}
use Rattle.automata.specs.Letters.{key, same_key, unlike}
use Rattle.automata.specs.Lists.{any}
use Rattle.file_fields.specs.declared.Counts.{Counts}
use Rattle.std.specs.Prelude.{Result, Ok, Err, Option, Some, None}
use Rattle.file_fields.specs.declared.Automaton.{Automaton}
use Rattle.file_fields.specs.declared.Automaton.TheVariants.{First, Second}
use Rattle.file_fields.specs.declared.Fault.{Fault}
use Rattle.file_fields.specs.declared.Reason.{Reason}
use Rattle.file_fields.specs.declared.Reason.TheVariants.{EndsInsideAField, Mark, Version, HeaderCount, LettersNotAscending, FinalFlag, ArcSource, ArcLetter, ArcTarget, ArcOperations, Operation, BytesAfterTheLastArc, JoinedBeyondALimit, TooManyConfigurations, TooManyPlainArcs, TooManyLiveSets, TooLittleMemoryLent, OutputTooShort, LengthTooLarge, BadRanges}

-- ---- the header, 12 bytes: mark, version and counts
-- a two-byte number, the low byte first
abbrev pub two : List ℕ → ℕ → ℕ
two s at = get_or s at 0 + 256 * get_or s (at + 1) 0

-- MLB
abbrev pub marked : List ℕ → Bool
marked s = eqb (get_or s 0 0) 0x4D && eqb (get_or s 1 0) 0x4C && eqb (get_or s 2 0) 0x42

-- a letters, s states, n registers, g register symbols and m arcs
abbrev pub counts_of : List ℕ → Counts
counts_of s = record { letters = get_or s 5 0; states = two s 6; registers = get_or s 8 0; symbols = get_or s 9 0; arcs = two s 10 }

-- 4 a header count outside its range
abbrev pub count_tests : Counts → List (Bool × Reason × ℕ)
count_tests c =
    (leb c.letters 64, HeaderCount, 5)
    ∷ (leb 1 c.states && leb c.states 256, HeaderCount, 6)
    ∷ (leb 1 c.registers && leb c.registers 8, HeaderCount, 8)
    ∷ (leb 1 c.symbols && leb c.symbols 16, HeaderCount, 9)
    ∷ (leb c.arcs 2048, HeaderCount, 10)
    ∷ []

-- 1 the header wants 12 bytes; 2 mark; 3 version; 4 its counts
abbrev pub header_tests : List ℕ → List (Bool × Reason × ℕ)
header_tests s =
    (leb 12 (length s), EndsInsideAField, 0)
    ∷ (marked s, Mark, 0)
    ∷ (eqb (two s 3) 1, Version, 3)
    ∷ count_tests (counts_of s)

-- ---- the letters
-- `size` bytes from a place on
abbrev pub part : ℕ → ℕ → List ℕ → List ℕ
part at size s = take size (drop at s)

-- the a letters, behind the header
abbrev pub letter_bytes : Counts → List ℕ → List ℕ
letter_bytes c s = part 12 c.letters s

-- strictly ascending
unfoldable pub ascending : List ℕ → Bool
ascending [] = true
ascending (x ∷ []) = true
ascending (x ∷ y ∷ l) = ltb x y && ascending (y ∷ l)

-- how many at the front ascend strictly
unfoldable pub ascending_front : List ℕ → ℕ
ascending_front [] = 0
ascending_front (x ∷ []) = 1
ascending_front (x ∷ y ∷ l) = suc (cond (ltb x y) (ascending_front (y ∷ l)) 0)

-- how many at the front have no byte of their letter behind them (document 02, change 4)
unfoldable pub unlike_front : List ℕ → ℕ
unfolding any key
unlike_front [] = 0
unlike_front (x ∷ l) = cond (not (any (same_key x) l)) (suc (unlike_front l)) 0

-- 1 the letters want a bytes; 5 letters not strictly ascending, at the first that is not above the one before it; 5 a letter in both
-- cases, at the first whose other case is behind it
abbrev pub letter_tests : Counts → List ℕ → List (Bool × Reason × ℕ)
letter_tests c s =
    (leb (12 + c.letters) (length s), EndsInsideAField, 12)
    ∷ (ascending (letter_bytes c s), LettersNotAscending, 12 + ascending_front (letter_bytes c s))
    ∷ (unlike (letter_bytes c s), LettersNotAscending, 12 + unlike_front (letter_bytes c s))
    ∷ []

-- ---- the final flags
-- where they begin, behind the letters
abbrev pub flags_at : Counts → ℕ
flags_at c = 12 + c.letters

-- the s flags
abbrev pub flag_bytes : Counts → List ℕ → List ℕ
flag_bytes c s = part (flags_at c) c.states s

-- where they end and the arcs begin
abbrev pub first_arc : Counts → ℕ
first_arc c = 12 + c.letters + c.states

-- each 00 or 01
unfoldable pub flags : List ℕ → Bool
flags [] = true
flags (x ∷ l) = leb x 1 && flags l

-- how many at the front are 00 or 01
unfoldable pub flags_front : List ℕ → ℕ
flags_front [] = 0
flags_front (x ∷ l) = cond (leb x 1) (suc (flags_front l)) 0

-- 1 the flags want s bytes; 6 a final flag above 01, at the first such one
abbrev pub flag_tests : Counts → List ℕ → List (Bool × Reason × ℕ)
flag_tests c s =
    (leb (first_arc c) (length s), EndsInsideAField, flags_at c)
    ∷ (flags (flag_bytes c s), FinalFlag, flags_at c + flags_front (flag_bytes c s))
    ∷ []

-- ---- an arc, at the front of l, which stands at the place `at` of the file
-- 7 its from-state; 32 its letter, FF being the empty move; 33 its to-state; 34 its number p of operations, 1 to 8
abbrev pub field_tests : Counts → ℕ → List ℕ → List (Bool × Reason × ℕ)
field_tests c at l =
    (ltb (get_or l 0 0) c.states, ArcSource, at)
    ∷ (eqb (get_or l 1 0) 255 || ltb (get_or l 1 0) c.letters, ArcLetter, at + 1)
    ∷ (ltb (get_or l 2 0) c.states, ArcTarget, at + 2)
    ∷ (leb 1 (get_or l 3 0) && leb (get_or l 3 0) 8, ArcOperations, at + 3)
    ∷ []

-- an operation of an arc whose letter byte is `letter`, on which nothing hangs in version 1: its first byte x is kind times 16 plus
-- register, its second byte y a symbol; register 0 admits only a read of 0
abbrev pub well_op : Counts → (letter x y : ℕ) → Bool
well_op c letter x y =
    leb (x / 16) 1
    && ltb (x % 16) c.registers
    && ltb y c.symbols
    && (not (eqb (x % 16) 0) || (eqb (x / 16) 0 && eqb y 0))

-- p of them
unfoldable pub well_ops : Counts → (letter p : ℕ) → List ℕ → Bool
well_ops c letter zero l = true
well_ops c letter (suc p) l = well_op c letter (get_or l 0 0) (get_or l 1 0) && well_ops c letter p (drop 2 l)

-- how many of them at the front are operations
unfoldable pub ops_front : Counts → (letter p : ℕ) → List ℕ → ℕ
ops_front c letter zero l = 0
ops_front c letter (suc p) l = cond (well_op c letter (get_or l 0 0) (get_or l 1 0)) (suc (ops_front c letter p (drop 2 l))) 0

-- how many bytes an arc takes: four, and two for each operation
abbrev pub arc_size : List ℕ → ℕ
arc_size l = 4 + 2 * get_or l 3 0

-- 1 its operations want 2p bytes; 8 an operation, at the first that is none
abbrev pub operation_tests : Counts → ℕ → List ℕ → List (Bool × Reason × ℕ)
operation_tests c at l =
    (leb (arc_size l) (length l), EndsInsideAField, at + 4)
    ∷ (well_ops c (get_or l 1 0) (get_or l 3 0) (drop 4 l), Operation, at + 4 + 2 * ops_front c (get_or l 1 0) (get_or l 3 0) (drop 4 l))
    ∷ []

-- 1 an arc wants 4 bytes; its fields; its operations
abbrev pub arc_tests : Counts → ℕ → List ℕ → List (Bool × Reason × ℕ)
arc_tests c at l = (leb 4 (length l), EndsInsideAField, at) ∷ (field_tests c at l ++ operation_tests c at l)

-- ---- m arcs; 9 bytes after the last arc, where they begin
-- of the arcs at the front of l, which stands at the place `at`, each before the next is looked at
unfoldable pub arcs_tests : ℕ → Counts → ℕ → List ℕ → List (Bool × Reason × ℕ)
unfolding well_ops ops_front
arcs_tests zero c at l = (leb (length l) 0, BytesAfterTheLastArc, at) ∷ []
arcs_tests (suc m) c at l = arc_tests c at l ++ arcs_tests m c (at + arc_size l) (drop (arc_size l) l)

-- ---- the answer
-- a file is refused: why, and at which place
abbrev pub fault : Reason → ℕ → Result Counts Fault
fault reason place = Err (record { reason = reason; place = place })

-- what is told of the first test that fails, else the counts
unfoldable pub first_fault : List (Bool × Reason × ℕ) → Counts → Result Counts Fault
first_fault [] c = Ok c
first_fault (t ∷ l) c = cond t.0 (first_fault l c) (fault t.1 t.2)

-- whether all tests hold: `t && u && v`
abbrev pub all_hold : Bool → List (Bool × Reason × ℕ) → Bool
all_hold b [] = b
all_hold b (t ∷ l) = all_hold (b && t.0) l

-- the number by which a reason is told
abbrev pub number_of : Reason → ℕ
number_of EndsInsideAField = 1
number_of Mark = 2
number_of Version = 3
number_of HeaderCount = 4
number_of LettersNotAscending = 5
number_of FinalFlag = 6
number_of ArcSource = 7
number_of ArcLetter = 32
number_of ArcTarget = 33
number_of ArcOperations = 34
number_of Operation = 8
number_of BytesAfterTheLastArc = 9
number_of JoinedBeyondALimit = 11
number_of TooManyConfigurations = 21
number_of TooManyPlainArcs = 22
number_of TooManyLiveSets = 23
number_of TooLittleMemoryLent = 24
number_of OutputTooShort = 25
number_of LengthTooLarge = 31
number_of BadRanges = 35

-- the number of the automaton at fault, 0 where none is
abbrev pub automaton_number : Option Automaton → ℕ
automaton_number None = 0
automaton_number (Some First) = 1
automaton_number (Some Second) = 2
