-- LengthLaws: no line of `bookcompare` has more than 1,036 bytes, so that an output of that many bytes cuts none.
use mathlib.Core.Path.{◌≡◌, refl}
use mathlib.Core.Bool.{Bool, cond, false, true}
use mathlib.Core.List.{List, [], ◌∷◌}
use Rattle.std.proofs.Math.Option as math
use Rattle.std.specs.Prelude.{None, Option, Some}
use Prim.Native.Nat.{ℕ, zero, suc, ◌*◌, ◌/◌, ◌^◌, ◌≤◌, ◌<◌}
use native.Mathlib.Decide.{dec_lt}
use native.Mathlib.Nat.{pow-suc}
use native.Mathlib.Omega.{arith}
use borrow.Author.Tests.{ltb-false, ltb-true}
use lib.Dec.{eqb, ltb}
use lib.ListN.{length, length-append, length-take, take}
use Rattle.automata.specs.Automaton.{Automaton}
use Rattle.automata.specs.Pairs.{Pair, differ, first_passing, judged, pairs, verdict}
use Rattle.automata.specs.Search.{Entry}
use Rattle.relettering.specs.Relettering.{letters_of_both, relettered}
use Rattle.format.specs.Decoding.{automaton_of}
use Rattle.file_fields.specs.Parts.{automaton_number, number_of}
use Rattle.file_fields.specs.declared.Automaton.{Automaton as Blamed}
use Rattle.file_fields.specs.declared.Automaton.TheVariants.{First, Second}
use Rattle.file_fields.specs.declared.Reason.{Reason}
use Rattle.file_fields.specs.declared.Reason.TheVariants.{EndsInsideAField, Mark, Version, HeaderCount, LettersNotAscending, FinalFlag, ArcSource, ArcLetter, ArcTarget, ArcOperations, Operation, BytesAfterTheLastArc, JoinedBeyondALimit, TooManyConfigurations, TooManyPlainArcs, TooManyLiveSets, TooLittleMemoryLent, OutputTooShort, LengthTooLarge, BadRanges}
use Rattle.format.specs.Refusals.{Refusals, unless_refused}
use Rattle.line_text.specs.Digits.{decimal_of, hex_digits, hex_of}
use Rattle.line_text.specs.Line.{ascii}
use Rattle.line_text.proofs.Laws.{decimal_more, decimal_one}
use Rattle.compare_promise.specs.Comparing.{answer_of, buffer_of, comparison_of, count_refusals, limit_refusals, refusals, refused, table_refusals, verdict_of}
use Rattle.compare_promise.specs.declared.Comparison.{Comparison}
use Rattle.compare_promise.specs.declared.Comparison.TheVariants.{Different, Refused, Same}
use Rattle.line_comparison.specs.ComparisonLines.{comparison_line}

-- ---- fields
-- a number below ten to the k has at most k digits, k at least 1
digits : (k n : ℕ) → n < 10 ^ suc k → length (decimal_of n) ≤ suc k
digits zero n h = rw (decimal_one n (omega arith)) (omega arith)
digits (suc k) n h = go (dec_lt n 10) (λ (g : 10 ≤ n). digits k (n / 10) (omega (arith, pow-suc 10 (suc k))))
  where
    go : Dec (n < 10) → (10 ≤ n → length (decimal_of (n / 10)) ≤ suc k) → length (decimal_of n) ≤ suc (suc k)
    go (yes s) more = rw (decimal_one n s) (omega arith)
    go (no s) more = rw (decimal_more n (omega arith), length-append) (omega (arith, more (omega arith)))

-- a byte has two hexadecimal digits
hex_digits_lem : (s : List ℕ) → length (hex_digits s) ≡ 2 * length s
unfolding hex_digits
hex_digits_lem [] = refl
hex_digits_lem (b ∷ s) = omega (arith, hex_digits_lem s)

hex_short : (s : List ℕ) → length s ≤ 512 → length (hex_of s) ≤ 1024
unfolding hex_of
hex_short [] h = omega arith
hex_short (b ∷ s) h = omega (arith, hex_digits_lem (b ∷ s))

-- ---- the numbers of an answer
abbrev Small : Comparison → Type 0
Small (Same n) = n ≤ 512
Small (Different n taker size) = n ≤ 512
Small (Refused r) = (number_of r.reason < 100) × (automaton_number r.automaton < 10)

-- the number of each reason has at most two digits
two_digits : (r : Reason) → number_of r < 100
two_digits r = ltb-true (number_of r) 100 (go r)
  where
    go : (r : Reason) → ltb (number_of r) 100 ≡ true
    go EndsInsideAField = refl
    go Mark = refl
    go Version = refl
    go HeaderCount = refl
    go LettersNotAscending = refl
    go FinalFlag = refl
    go ArcSource = refl
    go ArcLetter = refl
    go ArcTarget = refl
    go ArcOperations = refl
    go Operation = refl
    go BytesAfterTheLastArc = refl
    go JoinedBeyondALimit = refl
    go TooManyConfigurations = refl
    go TooManyPlainArcs = refl
    go TooManyLiveSets = refl
    go TooLittleMemoryLent = refl
    go OutputTooShort = refl
    go LengthTooLarge = refl
    go BadRanges = refl

-- that of an automaton has one
one_digit : (whose : Option Blamed) → automaton_number whose < 10
one_digit None = omega arith
one_digit (Some First) = omega arith
one_digit (Some Second) = omega arith

-- no test of a list of refusals holds
abbrev NoneHolds : Refusals → Type 0
NoneHolds [] = Unit {0}
NoneHolds (t ∷ l) = (t.0 ≡ false) × NoneHolds l

small-after : (l : Refusals) (a : Comparison) → (NoneHolds l → Small a) → Small (unless_refused refused l a)
unfolding unless_refused
small-after [] a f = f tt
small-after (t ∷ l) a f = go t.0 refl (λ e. small-after l a (λ n. f (e, n)))
  where
    go : (b : Bool) → t.0 ≡ b → (t.0 ≡ false → Small (unless_refused refused l a)) → Small (cond b (refused t.1 t.2) (unless_refused refused l a))
    go true e later = (two_digits t.1, one_digit t.2)
    go false e later = later e

small-answer : (x y : Automaton) (L n : ℕ) (o : math.Option (Entry Pair)) → n ≤ 512 → Small (answer_of (judged x y L n o))
unfolding judged
small-answer x y L n math.none h = h
small-answer x y L n (math.some e) h = h

module _ (first second : List ℕ) (words buffer : ℕ) where
  abbrev x : Automaton
  x = relettered (letters_of_both (automaton_of first) (automaton_of second)) (automaton_of first)

  abbrev y : Automaton
  y = relettered (letters_of_both (automaton_of first) (automaton_of second)) (automaton_of second)

  small-compared : length (pairs x y 256 512) ≤ 512 → Small (answer_of (verdict x y 256 512))
  unfolding verdict
  small-compared h = small-answer x y 256 (length (pairs x y 256 512)) (first_passing x y 256 differ 512) h

  few : NoneHolds (refusals 256 2048 512 first second words buffer) → length (pairs x y 256 512) ≤ 512
  unfolding refusals table_refusals limit_refusals count_refusals
  few h = ltb-false 512 (length (pairs x y 256 512)) h.1.1.1.1.1.1.1.1.0

  small : Small (comparison_of first second words buffer)
  unfolding comparison_of verdict_of
  small = small-after (refusals 256 2048 512 first second words buffer) (answer_of (verdict x y 256 512)) (λ h. small-compared (few h))

-- ---- the line
six : (b : Bool) → length (cond b (ascii "TAKES1") (ascii "TAKES2")) ≡ 6
six true = refl
six false = refl

-- The line of an answer is short where its numbers are, and where the buffer that it leaves has 512 bytes.
short-line : (r : Comparison) (word old : List ℕ) → Small r → length (buffer_of r word old) ≡ 512 → length (comparison_line r word) ≤ 1036
short-line (Same n) word old s e = simp length-append (omega (arith, digits 2 n (omega arith)))
short-line (Different n taker size) word old s e =
    let long : length word ≤ 512 = omega (arith, rw length-append at e) in
    let shown : length (hex_of (take size word)) ≤ 1024 = hex_short (take size word) (omega (arith, length-take size word)) in
    simp length-append (omega (arith, six (eqb taker 1), digits 2 n (omega arith), shown))
short-line (Refused r) word old s e = simp length-append (omega (arith, digits 1 (number_of r.reason) (omega arith), digits 0 (automaton_number r.automaton) (omega arith)))

-- The line of two files.
pub short : (first second : List ℕ) (words buffer : ℕ) (word old : List ℕ) → length (buffer_of (comparison_of first second words buffer) word old) ≡ 512 → length (comparison_line (comparison_of first second words buffer) word) ≤ 1036
short first second words buffer word old e = short-line (comparison_of first second words buffer) word old (small first second words buffer) e
