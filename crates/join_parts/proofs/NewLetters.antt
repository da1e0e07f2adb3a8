-- NewLetters: arcs with the new numbers of their letters: the byte of a letter, and how many bytes they take; and automata over the same letters.
use mathlib.Core.Path.{◌∙◌, ◌≡◌, ap₂, refl, sym}
use mathlib.Core.Bool.{Bool, false, true}
use mathlib.Core.List.{List, [], ◌∷◌, map}
use mathlib.Core.Option
use Prim.Native.Nat.{◌≤◌, ℕ}
use native.Mathlib.Omega.{arith}
use borrow.Author.Tests.{eqb-true}
use lib.Dec.{eqb}
use lib.ListN.{length, length-append}
use Rattle.automata.specs.Automaton.{Arc, Automaton}
use Rattle.automata.specs.Words.{SameLetters}
use Rattle.relettering.specs.Relettering.{letter_by, relettered_arc, with_letters}
use Rattle.relettering.proofs.Laws.{arc-unnumbered, number-beyond}
use Rattle.format.specs.Decoding.{letter_of}
use Rattle.format.specs.Encoding.{arc_bytes, arcs_bytes, letter_byte}
use Rattle.file_arc_writing.proofs.Laws.{arc-length}

module _ (new : List ℕ) where
  -- an arc takes as many bytes as it took
  pub relettered-size : (x : Arc) → length (arc_bytes (relettered_arc new x)) ≡ length (arc_bytes x)
  relettered-size x = arc-length (relettered_arc new x) ∙ sym (arc-length x)

  pub relettered-length : (l : List Arc) → length (arcs_bytes (map (relettered_arc new) l)) ≡ length (arcs_bytes l)
  unfolding arcs_bytes
  relettered-length [] = refl
  relettered-length (x ∷ l) =
      length-append (arc_bytes (relettered_arc new x)) (arcs_bytes (map (relettered_arc new) l)) ∙ omega (arith, relettered-size x, relettered-length l, length-append (arc_bytes x) (arcs_bytes l))

  -- a list of 64 numbers leaves the byte FF alone, the empty move
  module _ (few : length new ≤ 64) where
    pub letter-byte : (x : ℕ) → letter_byte (Option.map (letter_by new) (letter_of x)) ≡ letter_by new x
    unfolding letter_of
    letter-byte x = go (eqb x 255) refl
      where
        go : (t : Bool) → eqb x 255 ≡ t → letter_byte (Option.map (letter_by new) (letter_of x)) ≡ letter_by new x
        go true f = let e = eqb-true x 255 f in rw f (sym (number-beyond new x (omega arith) ∙ e))
        go false f = rw f

-- by no new numbers arcs are as they were
pub arcs-unnumbered : (new : List ℕ) (l : List Arc) → length new ≡ 0 → map (relettered_arc new) l ≡ l
arcs-unnumbered (x ∷ new) l e = absurd (omega arith)
arcs-unnumbered [] [] e = refl
arcs-unnumbered [] (a ∷ l) e = ap₂ (λ (b : Arc) (r : List Arc). b ∷ r) (arc-unnumbered a) (arcs-unnumbered [] l e)

-- two automata over the same letters
pub over-same : (one two all : List ℕ) (x y : Automaton) → SameLetters (with_letters one all x) (with_letters two all y)
unfolding with_letters
over-same one two all x y = refl
