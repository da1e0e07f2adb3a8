-- NextLetters: the letters that are met are the digits 1 of a word; the next of them is as many places up as the rest has trailing zeros.
use mathlib.Core.Path.{◌∙◌, ◌≡◌, ap, refl, subst, sym}
use mathlib.Core.Bool.{Bool, false, not, true}
use Prim.Native.Nat.{◌+◌, ◌-◌, ◌/◌, ◌<◌, ◌^◌, ◌≤◌, ℕ}
use native.Mathlib.Omega.{arith}
use lib.Count.{count_trailing_zeros}
use lib.Dec.{T}
use lib.Pow.{shr_le}
use Rattle.word_sets.specs.Sets.{bit}
use Rattle.word_sets.proofs.Laws.{bit-shift, bit-zero, trailing}
use Rattle.live_letters.specs.Meeting.{NextLetter}

off : (b : Bool) → ¬ T b → b ≡ false
off true h = absurd (h tt)
off false h = refl

is-so : (b : Bool) → not b ≡ false → T b
is-so true e = tt
is-so false e = absurd (subst T e tt)

-- the digit j is one of the rest from `next` on
in_rest : (met next j : ℕ) → next ≤ j → bit met j ≡ bit (met / 2 ^ next) (j - next)
in_rest met next j h = let e : j ≡ next + (j - next) = omega arith in ap (bit met) e ∙ sym (bit-shift met next (j - next))

module _ (met l : ℕ) (dead : Bool) where
  pub one-behind : NextLetter met dead l (l + 1)
  one-behind = record { later = omega arith; between = λ j a b. absurd (omega arith) }

  -- no letter behind l is met before `end`
  pub none-behind : (end : ℕ) → not dead ≡ false → l < end → (l + 1 < end → met / 2 ^ (l + 1) ≡ 0) → NextLetter met dead l end
  none-behind end d h z = record { later = h; between = λ j a b. (is-so dead d, in_rest met (l + 1) j (omega arith) ∙ ap (λ (x : ℕ). bit x (j - (l + 1))) (z (omega arith)) ∙ bit-zero (j - (l + 1))) }

  -- the next that is met is a digit 1 of the rest
  pub met-behind : not dead ≡ false → met < 2 ^ 64 → ¬ (met / 2 ^ (l + 1) ≡ 0) → NextLetter met dead l (l + 1 + count_trailing_zeros 64 (met / 2 ^ (l + 1)))
  met-behind d f z =
      let p = trailing 64 (met / 2 ^ (l + 1)) (omega (arith, shr_le met (l + 1), f)) z in
      record { later = omega arith; between = λ j a b. (is-so dead d, in_rest met (l + 1) j (omega arith) ∙ off (bit (met / 2 ^ (l + 1)) (j - (l + 1))) (p.none (j - (l + 1)) (omega arith))) }
