-- WordLaws: the words that end in bytes, from one place of the bytes on: where the first of them ends, and what is left behind it.
use mathlib.Core.Path.{◌∙◌, ◌≡◌, refl}
use mathlib.Core.Bool.{Bool, cond, false, true}
use mathlib.Core.List.{List, [], ◌∷◌}
use Prim.Native.Nat.{◌+◌, ◌-◌, ◌<◌, ◌≤◌, suc, zero, zero-le, ℕ}
use native.Mathlib.Omega.{arith}
use borrow.Author.Tests.{le-ltb, lt-ltb}
use lib.Dec.{eqb, ltb}
use lib.ListN.{drop, length, length-drop, take}
use lib.Seq.{drop-drop}
use native.Mathlib.Decide.{dec_lt}
use Rattle.std.specs.Prelude.{Some, None}
use Rattle.std.specs.List.{position, position_or_len}
use Rattle.std.proofs.lemmas.List.Recursion.{is_position_or_len}
use Rattle.table_words.specs.Words.{before, words_in}

module _ (separator : ℕ) where
  -- ---- how many bytes stand before a separator
  pub before-le : (s : List ℕ) → before separator s ≤ length s
  unfolding before
  before-le [] = zero-le
  before-le (b ∷ s) = go (eqb b separator) (before-le s)
    where
      go : (t : Bool) → before separator s ≤ length s → cond t 0 (suc (before separator s)) ≤ length (b ∷ s)
      go true h = zero-le
      go false h = omega arith

  -- the place of the first separator, or where the bytes end
  before-position : (s : List ℕ) → before separator s ≡ position_or_len (λ b. eqb b separator) s
  unfolding before
  before-position = is_position_or_len (before separator) (λ b. eqb b separator) refl
      (λ b s. let one : 1 + before separator s ≡ suc (before separator s) = omega arith in rw one)

  pub at_separator : (s : List ℕ) (i : ℕ) → position (λ b. eqb b separator) s ≡ Some i → before separator s ≡ i
  at_separator s i e = before-position s ∙ go (ltb (position_or_len (λ b. eqb b separator) s) (length s)) e
    where
      go : (t : Bool) → cond t (Some (position_or_len (λ b. eqb b separator) s)) None ≡ Some i → position_or_len (λ b. eqb b separator) s ≡ i
      go true e = cc
      go false e = absurd (let z : ◌≡◌ {A = ℕ} 0 1 = cc in omega arith)

  pub no_separator : (s : List ℕ) → position (λ b. eqb b separator) s ≡ None → before separator s ≡ length s
  no_separator s e = go (dec_lt (position_or_len (λ b. eqb b separator) s) (length s))
    where
      go : Dec (position_or_len (λ b. eqb b separator) s < length s) → before separator s ≡ length s
      go (yes h) = absurd (let f : Some (position_or_len (λ b. eqb b separator) s) ≡ None = rw (lt-ltb _ _ h) at e in let z : ◌≡◌ {A = ℕ} 0 1 = cc in omega arith)
      go (no h) = omega (arith, h, before-position s, before-le s)

  -- ---- the words from one place on
  -- there is no room for another answer
  pub words-full : (room n : ℕ) (s : List ℕ) → room ≤ n → words_in separator (room - n) s ≡ []
  unfolding words_in
  words-full room n s h = let z : room - n ≡ 0 = omega arith in rw z

  module _ (bytes : List ℕ) (from end : ℕ) (h : end ≡ from + before separator (drop from bytes)) where
    -- the word that begins at `from` ends in the bytes, or not
    pub words-none : (n : ℕ) → length bytes ≤ end → from ≤ length bytes → words_in separator n (drop from bytes) ≡ []
    unfolding words_in
    words-none zero l f = refl
    words-none (suc n) l f = rw (le-ltb (before separator (drop from bytes)) (length (drop from bytes)) (omega (arith, length-drop from bytes)))

    pub words_more : (room n : ℕ) → n < room → end < length bytes
        → words_in separator (room - n) (drop from bytes) ≡ take (end - from) (drop from bytes) ∷ words_in separator (room - (n + 1)) (drop (end + 1) bytes)
    unfolding words_in
    words_more room n r l =
        let m : room - n ≡ suc (room - (n + 1)) = omega arith in
        let b : end - from ≡ before separator (drop from bytes) = omega arith in
        let e : end + 1 ≡ from + suc (before separator (drop from bytes)) = omega arith in
        rw (m, b, e, ← drop-drop (suc (before separator (drop from bytes))) from bytes, lt-ltb (before separator (drop from bytes)) (length (drop from bytes)) (omega (arith, length-drop from bytes)))
