-- WritingLaws: what is written part by part, each behind the one before, is one text.
use mathlib.Core.Path.{◌≡◌, ap, sym, ◌∙◌}
use Prim.Native.Nat.{ℕ, ◌+◌, ◌≤◌, ◌<◌}
use native.Mathlib.Decide.{dec_le}
use native.Mathlib.Omega.{arith}
use native.Mathlib.Numerals.{add-one}
use native.Mathlib.Nat.{add_assoc, add-zero}
use mathlib.Core.List.{List, [], ◌∷◌, ◌++◌, append_assoc, append-nil}
use lib.ListN.{get_or, length, take, drop, length-append}
use lib.Seq.{drop-drop, drop-paste, length-paste, paste, paste-zero, take_all, take-append-add, take-append-le, take-paste, take-suc}
use Rattle.line_text.specs.Writing.{fitting, Writes}

-- ---- one part
-- a text of which nothing has room, the empty one also, changes nothing
pub nothing : (text : List ℕ) (at : ℕ) (old : List ℕ) → fitting text at old ≡ 0 → Writes text at at old old
nothing text at old none = record { ends = omega arith; holds = rw none (paste-zero old at text) }

module _ {text : List ℕ} {at end : ℕ} {old new : List ℕ} (w : Writes text at end old new) where
  -- behind the last byte nothing is written
  unchanged : length old ≤ at → new ≡ old
  unchanged h = let none : fitting text at old ≡ 0 = omega arith in w.holds ∙ rw none (sym (paste-zero old at text))

  -- the bytes stay as many as they were
  same_length : length new ≡ length old
  same_length = go (dec_le at (length old))
    where
      go : Dec (at ≤ length old) → length new ≡ length old
      go (yes h) = ap length w.holds ∙ length-paste old at text (fitting text at old) (omega arith) (omega arith)
      go (no h) = ap length (unchanged (omega arith))

-- ---- one part behind another
-- the front of two texts, where the second begins only behind the whole first
take-both : (a b : List ℕ) (i j : ℕ) → i ≤ length a → (i < length a → j ≡ 0) → take (i + j) (a ++ b) ≡ take i a ++ take j b
take-both a b i j h cut = go (dec_le (length a) i)
  where
    go : Dec (length a ≤ i) → take (i + j) (a ++ b) ≡ take i a ++ take j b
    go (yes g) = let e : i ≡ length a = omega arith in rw (e, take-append-add, take_all (length a) a (omega arith))
    go (no g) = rw (cut (omega arith), add-zero, append-nil, take-append-le i a b h)

-- a copy behind a copy is one copy
paste-behind : (old a b : List ℕ) (at i j : ℕ) → at ≤ length old → i ≤ length a → (i < length a → j ≡ 0) → paste (paste old at a i) (at + i) b j ≡ paste old at (a ++ b) (i + j)
paste-behind old a b at i j h g cut =
    let back : drop (at + i + j) (paste old at a i) ≡ drop (at + (i + j)) old = rw (← drop-drop j (at + i), drop-paste old at a i h g, drop-drop j (at + i), add_assoc) in
    rw (back, take-paste old at a i h g, take-both a b i j g cut, append_assoc (take at old) (take i a))

module _ {a b : List ℕ} {at middle end : ℕ} {old between new : List ℕ} where
  -- A text behind a text is one text. Cut where there is no room, they are cut as one.
  pub then : Writes a at middle old between → Writes b middle end between new → Writes (a ++ b) at end old new
  then v w = go (dec_le at (length old))
    where
      both : fitting (a ++ b) at old ≡ fitting a at old + fitting b middle between
      both = omega (arith, length-append a b, same_length v, v.ends)

      go : Dec (at ≤ length old) → Writes (a ++ b) at end old new
      go (yes h) = record {
        ends = omega (arith, both, v.ends, w.ends);
        holds = cc (both, paste-behind old a b at (fitting a at old) (fitting b middle between) h (omega arith) (λ g. omega (arith, same_length v, v.ends)));
      }
      go (no h) = record {
        ends = omega (arith, both, v.ends, w.ends);
        holds = unchanged w (omega (arith, same_length v, v.ends)) ∙ unchanged v (omega arith) ∙ (nothing (a ++ b) at old (omega (arith, both))).holds;
      }

-- ---- byte by byte
module _ (f : List ℕ → List ℕ) (over-append : (s t : List ℕ) → f (s ++ t) ≡ f s ++ f t) {at middle end : ℕ} {old between new : List ℕ} where
  -- one byte more of what is written byte by byte
  pub next : (s : List ℕ) (i : ℕ) → i < length s → Writes (f (take i s)) at middle old between → Writes (f (get_or s i 0 ∷ [])) middle end between new → Writes (f (take (i + 1) s)) at end old new
  next s i h v w = rw (add-one, take-suc s i 0 h, over-append) (then v w)
