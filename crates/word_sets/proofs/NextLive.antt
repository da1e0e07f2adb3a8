-- NextLive: the least member from a number on, word by word.
use mathlib.Core.Path.{◌≡◌, sym, ap, ap₂, ◌∙◌, subst}
use mathlib.Core.List.{List}
use Prim.Native.Nat.{ℕ, ◌+◌, ◌-◌, ◌*◌, ◌/◌, ◌%◌, ◌^◌, ◌≤◌, ◌<◌}
use native.Mathlib.Decide.{dec_lt}
use native.Mathlib.Omega.{arith}
use lib.Dec.{T}
use lib.ListN.{get_or}
use lib.Pow.{shr_le}
use lib.Count.{count_trailing_zeros}
use Rattle.word_sets.specs.Sets.{bit, in_set, Next}
use Rattle.word_sets.proofs.Bits.{bit-zero, bit-shift, bit-above, Lowest, trailing}

-- no number from c to before `at` is a member
pub record Scanned (s : List ℕ) (c at : ℕ) : Type 0 where
  pub low : c ≤ at
  pub high : at ≤ 256
  pub none : (j : ℕ) → c ≤ j → j < at → ¬ T (in_set s j)

pub Scanned-start : (s : List ℕ) {c : ℕ} → c ≤ 256 → Scanned s c c
Scanned-start s h = record { low = omega arith; high = h; none = λ j l g. absurd (omega arith) }

-- the digits from d on of word q
abbrev pub rest_of : List ℕ → ℕ → ℕ → ℕ
rest_of s q d = get_or s q 0 / 2 ^ d

-- a number of the same word
In-rest-of : (s : List ℕ) (q at j : ℕ) → at / 64 ≡ q → at ≤ j → j / 64 ≡ q → in_set s j ≡ bit (rest_of s q (at % 64)) (j - at)
unfolding in_set
In-rest-of s q at j m h e =
    let d : j % 64 ≡ at % 64 + (j - at) = omega arith in
    ap₂ (λ (p i : ℕ). bit (get_or s p 0) i) e d ∙ sym (bit-shift (get_or s q 0) (at % 64) (j - at))

-- none in the next t numbers either, if they are in the same word and their digits are 0
Scanned-on : {s : List ℕ} {c at : ℕ} (q t : ℕ) → at / 64 ≡ q → Scanned s c at → at + t ≤ 64 * q + 64 → ((i : ℕ) → i < t → ¬ T (bit (rest_of s q (at % 64)) i))
    → (j : ℕ) → c ≤ j → j < at + t → ¬ T (in_set s j)
Scanned-on {s} {c} {at} q t e k h z j l g u = go (dec_lt j at)
  where
    go : Dec (j < at) → ⊥
    go (yes m) = k.none j l m u
    go (no m) = z (j - at) (omega arith) (subst T (In-rest-of s q at j e (omega arith) (omega arith)) u)

-- the word has none: on to the next one
pub Scanned-skip : {s : List ℕ} {c at : ℕ} (q : ℕ) → q < 4 → at / 64 ≡ q → rest_of s q (at % 64) ≡ 0 → Scanned s c at → Scanned s c (64 * q + 64)
Scanned-skip {s} {c} {at} q h m e k = record {
  low = omega (arith, k.low);
  high = omega arith;
  none = λ j l g. Scanned-on q (64 * q + 64 - at) m k (omega arith) (λ i m u. subst T (ap (λ (x : ℕ). bit x i) e ∙ bit-zero i) u) j l (omega arith);
}

-- the word has one: its lowest digit
pub Scanned-hit : {s : List ℕ} {c at : ℕ} (q : ℕ) → ((i : ℕ) → get_or s i 0 < 2 ^ 64) → q < 4 → at / 64 ≡ q → ¬ (rest_of s q (at % 64) ≡ 0) → Scanned s c at
    → Next s c (at + count_trailing_zeros 64 (rest_of s q (at % 64)))
Scanned-hit {s} {c} {at} q f h e z k = record {
  low = omega (arith, k.low);
  high = omega (arith, inside);
  member = λ l. subst T (sym (In-rest-of s q at (at + t) e (omega arith) (omega (arith, inside)) ∙ ap (bit (rest_of s q (at % 64))) back)) p.one;
  none = Scanned-on q t e k (omega (arith, inside)) p.none;
}
  where
    t : ℕ
    t = count_trailing_zeros 64 (rest_of s q (at % 64))

    p : Lowest 64 (rest_of s q (at % 64)) (count_trailing_zeros 64 (rest_of s q (at % 64)))
    p = trailing 64 (rest_of s q (at % 64)) (omega (arith, shr_le (get_or s q 0) (at % 64), f q)) z

    back : at + count_trailing_zeros 64 (rest_of s q (at % 64)) - at ≡ count_trailing_zeros 64 (rest_of s q (at % 64))
    back = omega arith

    inside : at % 64 + count_trailing_zeros 64 (rest_of s q (at % 64)) < 64
    inside = go (dec_lt (at % 64 + t) 64)
      where
        go : Dec (at % 64 + t < 64) → at % 64 + t < 64
        go (yes l) = l
        go (no l) = absurd (subst T (bit-shift (get_or s q 0) (at % 64) t ∙ bit-above 64 (get_or s q 0) (at % 64 + t) (f q) (omega arith)) p.one)

pub Scanned-end : {s : List ℕ} {c at : ℕ} → 256 ≤ at → Scanned s c at → Next s c at
Scanned-end h k = record { low = k.low; high = k.high; member = λ l. absurd (omega arith); none = k.none }
