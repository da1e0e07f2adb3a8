-- SetLaws: what the operations on four words do to the members.
use mathlib.Core.Path.{◌≡◌, refl, sym, ap, ap₂, ◌∙◌, subst}
use mathlib.Core.Logic.{◌↔◌, ⊎_elim}
use mathlib.Core.Bool.{Bool, false, not, ◌||◌, ◌&&◌}
use mathlib.Core.List.{List, [], ◌∷◌}
use Prim.Native.Nat.{ℕ, zero, suc, ◌+◌, ◌*◌, ◌/◌, ◌%◌, ◌^◌, ◌≤◌, ◌<◌}
use native.Mathlib.Decide.{ℕ_discrete, dec_le}
use native.Mathlib.Omega.{arith}
use borrow.Author.Tests.{eq-eqb, ne_eqb}
use lib.Dec.{T, eqb, eqb→eq, not_T, T_not, lit<}
use lib.ListN.{length, get_or, set, get_or-eq_default}
use lib.Seq.{get_or-set_same, get_or-set_other}
use lib.Bits.{bit_and, bit_or, or_lt, and_lt}
use lib.Count.{count_trailing_zeros}
use mir.Facts.{and_yes, yes_and, or_yes}
use mir.Syntax.{w64}
use mir.Val.{Val}
use denote.Plain.{UInt}
use denote.Array.{Array, each}
use denote.Shadow.{shadow}
use denote.Laws.{Is}
use Rattle.word_sets.specs.Sets.{bit, in_set}
use Rattle.word_sets.proofs.Bits.{has-digit, with_digit, bit-or, bit-and, bit-zero, trailing, or_is_zero}

-- what every value of type [u64; 4] is
pub record Four (s : List ℕ) : Type 0 where
  pub long : length s ≡ 4
  pub fits : (i : ℕ) → get_or s i 0 < 2 ^ 64

-- a function knows it of a parameter, by `c.good.0` and so on, and of a result, by `c.f.ok`
pub four : (s : List ℕ) (vs : List Val) → Is (Array (UInt w64) 4) s vs → Four s
four s vs p = record { long = p.1.0.1; fits = words s p.0 p.1.1 }
  where
    words : (s : List ℕ) (us : List Val) → shadow (each ℕ (UInt w64).own_val s us) → (i : ℕ) → get_or s i 0 < 2 ^ 64
    words [] us q i = lit< tt
    words (x ∷ s) [] q i = absurd q
    words (x ∷ s) (u ∷ us) q zero = q.0.1
    words (x ∷ s) (u ∷ us) q (suc i) = words s us q.1 i

-- four words, one by one
pub Four-words : (s : List ℕ) → length s ≡ 4 → s ≡ get_or s 0 0 ∷ get_or s 1 0 ∷ get_or s 2 0 ∷ get_or s 3 0 ∷ []
Four-words [] e = absurd (omega arith)
Four-words (a ∷ []) e = absurd (omega arith)
Four-words (a ∷ b ∷ []) e = absurd (omega arith)
Four-words (a ∷ b ∷ c ∷ []) e = absurd (omega arith)
Four-words (a ∷ b ∷ c ∷ d ∷ []) e = refl
Four-words (a ∷ b ∷ c ∷ d ∷ x ∷ s) e = absurd (omega arith)

-- the word and the digit of a number
pub place : (s : List ℕ) (q i : ℕ) → i < 64 → in_set s (64 * q + i) ≡ bit (get_or s q 0) i
unfolding in_set
place s q i h = let d : (64 * q + i) / 64 ≡ q = omega arith in let m : (64 * q + i) % 64 ≡ i = omega arith in rw (d, m)

-- ---- has, with, empty

pub has-set : (s : List ℕ) (k : ℕ) → not (eqb (bit_and (get_or s (k / 64) 0) (2 ^ (k % 64))) 0) ≡ in_set s k
unfolding in_set
has-set s k = has-digit (get_or s (k / 64) 0) (k % 64)

same_test : (a b c d : ℕ) → (a ≡ b → c ≡ d) → (c ≡ d → a ≡ b) → eqb a b ≡ eqb c d
same_test a b c d f g = go (ℕ_discrete a b)
  where
    go : Dec (a ≡ b) → eqb a b ≡ eqb c d
    go (yes e) = eq-eqb a b e ∙ sym (eq-eqb c d (f e))
    go (no n) = ne_eqb a b n ∙ sym (ne_eqb c d (λ e. n (g e)))

pub with_set : (s : List ℕ) (k : ℕ) → k / 64 < length s → (j : ℕ)
    → in_set (set s (k / 64) (bit_or (get_or s (k / 64) 0) (2 ^ (k % 64)))) j ≡ (eqb j k || in_set s j)
unfolding in_set
with_set s k h j = go (ℕ_discrete (j / 64) (k / 64))
  where
    new : ℕ
    new = bit_or (get_or s (k / 64) 0) (2 ^ (k % 64))

    go : Dec (j / 64 ≡ k / 64) → bit (get_or (set s (k / 64) new) (j / 64) 0) (j % 64) ≡ (eqb j k || bit (get_or s (j / 64) 0) (j % 64))
    go (yes e) =
        rw (e, get_or-set_same s (k / 64) new 0 h)
        (with_digit (get_or s (k / 64) 0) (k % 64) (j % 64)
        ∙ ap (λ (t : Bool). t || bit (get_or s (k / 64) 0) (j % 64)) (same_test (j % 64) (k % 64) j k (λ p. omega arith) (λ p. omega arith)))
    go (no n) =
        ap (λ (x : ℕ). bit x (j % 64)) (get_or-set_other s (k / 64) (j / 64) new 0 n)
        ∙ ap (λ (t : Bool). t || bit (get_or s (j / 64) 0) (j % 64)) (sym (ne_eqb j k (λ p. n (omega arith))))

pub empty-set : (j : ℕ) → in_set (0 ∷ 0 ∷ 0 ∷ 0 ∷ []) j ≡ false
unfolding in_set
empty-set j = rw (zeros (j / 64)) (bit-zero (j % 64))
  where
    zeros : (q : ℕ) → get_or {A = ℕ} (0 ∷ 0 ∷ 0 ∷ 0 ∷ []) q 0 ≡ 0
    zeros zero = refl
    zeros (suc zero) = refl
    zeros (suc (suc zero)) = refl
    zeros (suc (suc (suc zero))) = refl
    zeros (suc (suc (suc (suc q)))) = refl

-- ---- union, common

-- an operation word by word
abbrev pub wise : (ℕ → ℕ → ℕ) → List ℕ → List ℕ → List ℕ
wise f a b = f (get_or a 0 0) (get_or b 0 0) ∷ f (get_or a 1 0) (get_or b 1 0) ∷ f (get_or a 2 0) (get_or b 2 0) ∷ f (get_or a 3 0) (get_or b 3 0) ∷ []

wise-at : (f : ℕ → ℕ → ℕ) (a b : List ℕ) → f 0 0 ≡ 0 → length a ≡ 4 → length b ≡ 4 → (q : ℕ) → get_or (wise f a b) q 0 ≡ f (get_or a q 0) (get_or b q 0)
wise-at f a b z la lb zero = refl
wise-at f a b z la lb (suc zero) = refl
wise-at f a b z la lb (suc (suc zero)) = refl
wise-at f a b z la lb (suc (suc (suc zero))) = refl
wise-at f a b z la lb (suc (suc (suc (suc q)))) = sym (ap₂ f (get_or-eq_default a 0 (omega arith)) (get_or-eq_default b 0 (omega arith)) ∙ z)

pub union-set : (a b : List ℕ) → length a ≡ 4 → length b ≡ 4 → (j : ℕ) → in_set (wise bit_or a b) j ≡ (in_set a j || in_set b j)
unfolding in_set
union-set a b la lb j = rw (wise-at bit_or a b refl la lb (j / 64)) (bit-or (get_or a (j / 64) 0) (get_or b (j / 64) 0) (j % 64))

pub common_set : (a b : List ℕ) → length a ≡ 4 → length b ≡ 4 → (j : ℕ) → in_set (wise bit_and a b) j ≡ (in_set a j && in_set b j)
unfolding in_set
common_set a b la lb j = rw (wise-at bit_and a b refl la lb (j / 64)) (bit-and (get_or a (j / 64) 0) (get_or b (j / 64) 0) (j % 64))

-- ---- meets, same: the words f 0 to f n, all in one

abbrev pub or_to : (ℕ → ℕ) → ℕ → ℕ
or_to f zero = f 0
or_to f (suc n) = bit_or (or_to f n) (f (suc n))

or_to-zero : (f : ℕ → ℕ) (n : ℕ) → or_to f n ≡ 0 → (q : ℕ) → q ≤ n → f q ≡ 0
or_to-zero f zero e q h = let z : q ≡ 0 = omega arith in rw z e
or_to-zero f (suc n) e q h = let p = (or_is_zero (or_to f n) (f (suc n))).0 e in go (ℕ_discrete q (suc n)) p.1 (λ g. or_to-zero f n p.0 q g)
  where
    go : Dec (q ≡ suc n) → f (suc n) ≡ 0 → (q ≤ n → f q ≡ 0) → f q ≡ 0
    go (yes p) z ih = rw p z
    go (no p) z ih = ih (omega arith)

zero-or_to : (f : ℕ → ℕ) (n : ℕ) → ((q : ℕ) → q ≤ n → f q ≡ 0) → or_to f n ≡ 0
zero-or_to f zero g = g 0 (omega arith)
zero-or_to f (suc n) g = (or_is_zero (or_to f n) (f (suc n))).1 (zero-or_to f n (λ q h. g q (omega arith)), g (suc n) (omega arith))

-- a digit 1 of it is one of some word
or_to-bit : (f : ℕ → ℕ) (n i : ℕ) → T (bit (or_to f n) i) → (q : ℕ) × T (bit (f q) i)
or_to-bit f zero i t = (0, t)
or_to-bit f (suc n) i t = ⊎_elim (λ u. or_to-bit f n i u) (λ u. (suc n, u)) (or_yes (bit (or_to f n) i) (bit (f (suc n)) i) (subst T (bit-or (or_to f n) (f (suc n)) i) t))

or_to-lt : (f : ℕ → ℕ) (n : ℕ) → ((q : ℕ) → f q < 2 ^ 64) → or_to f n < 2 ^ 64
or_to-lt f zero h = h 0
or_to-lt f (suc n) h = or_lt 64 (or_to f n) (f (suc n)) (or_to-lt f n h) (h (suc n))

-- no word has a digit 1
pub none-set : (s : List ℕ) → Four s → T (eqb (or_to (λ q. get_or s q 0) 3) 0) ↔ ((j : ℕ) → ¬ T (in_set s j))
unfolding in_set
none-set s fs = (λ t j u. none (or_to-zero f 3 (eqb→eq (or_to f 3) 0 t)) j u, λ g. zero_or g (ℕ_discrete (or_to f 3) 0))
  where
    f : ℕ → ℕ
    f q = get_or s q 0

    none : ((q : ℕ) → q ≤ 3 → f q ≡ 0) → (j : ℕ) → ¬ T (in_set s j)
    none z j u = subst T (ap (λ (x : ℕ). bit x (j % 64)) (all (dec_le (j / 64) 3)) ∙ bit-zero (j % 64)) u
      where
        all : Dec (j / 64 ≤ 3) → f (j / 64) ≡ 0
        all (yes h) = z (j / 64) h
        all (no h) = let l : 4 ≤ j / 64 = omega arith in get_or-eq_default s 0 (omega (arith, fs.long))

    zero_or : ((j : ℕ) → ¬ T (in_set s j)) → Dec (or_to f 3 ≡ 0) → T (eqb (or_to f 3) 0)
    zero_or g (yes e) = rw e tt
    zero_or g (no n) =
        let l = trailing 64 (or_to f 3) (or_to-lt f 3 fs.fits) n in
        let i = count_trailing_zeros 64 (or_to f 3) in
        let o = or_to-bit f 3 i l.one in
        absurd (g (64 * o.0 + i) (rw (place s o.0 i l.inside) o.1))

-- some digit is 1 in both
pub meets-set : (a b : List ℕ) → Four a → Four b → T (not (eqb (or_to (λ q. bit_and (get_or a q 0) (get_or b q 0)) 3) 0)) ↔ ((j : ℕ) × T (in_set a j) × T (in_set b j))
unfolding in_set
meets-set a b fa fb = (
  λ t. found (λ e. T_not (eqb (or_to f 3) 0) t (rw e tt)),
  λ p. not_T (eqb (or_to f 3) 0) (λ t. clash p.0 p.1 p.2 (or_to-zero f 3 (eqb→eq (or_to f 3) 0 t))),
)
  where
    f : ℕ → ℕ
    f q = bit_and (get_or a q 0) (get_or b q 0)

    found : ¬ (or_to f 3 ≡ 0) → (j : ℕ) × T (in_set a j) × T (in_set b j)
    found n =
        let l = trailing 64 (or_to f 3) (or_to-lt f 3 (λ q. and_lt 64 (get_or a q 0) (get_or b q 0) (fa.fits q) (fb.fits q))) n in
        let i = count_trailing_zeros 64 (or_to f 3) in
        let o = or_to-bit f 3 i l.one in
        let both = and_yes (bit (get_or a o.0 0) i) (bit (get_or b o.0 0) i) (subst T (bit-and (get_or a o.0 0) (get_or b o.0 0) i) o.1) in
        (64 * o.0 + i, rw (place a o.0 i l.inside) both.0, rw (place b o.0 i l.inside) both.1)

    clash : (j : ℕ) → T (in_set a j) → T (in_set b j) → ¬ ((q : ℕ) → q ≤ 3 → f q ≡ 0)
    clash j s t z =
        let both = yes_and (bit (get_or a (j / 64) 0) (j % 64)) (bit (get_or b (j / 64) 0) (j % 64)) s t in
        subst T (sym (bit-and (get_or a (j / 64) 0) (get_or b (j / 64) 0) (j % 64)) ∙ ap (λ (x : ℕ). bit x (j % 64)) (all (dec_le (j / 64) 3)) ∙ bit-zero (j % 64)) both
      where
        all : Dec (j / 64 ≤ 3) → f (j / 64) ≡ 0
        all (yes h) = z (j / 64) h
        all (no h) = let l : 4 ≤ j / 64 = omega arith in ap₂ bit_and (get_or-eq_default a 0 (omega (arith, fa.long))) (get_or-eq_default b 0 (omega (arith, fb.long)))
