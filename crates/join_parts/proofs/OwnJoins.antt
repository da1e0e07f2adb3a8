-- OwnJoins: two files joined by their own numbers, with room for the letters of both: once these are put in, it is the join over them; where
-- the lists agree, it is so as it stands. Its answer is that of the join over the letters of both, and it is within the limits where that is.
use mathlib.Core.Path.{◌∙◌, ◌≡◌, ap, ap₂, subst, sym}
use mathlib.Core.Bool.{false}
use mathlib.Core.List.{List, []}
use Prim.Native.Nat.{ℕ, ◌≤◌}
use native.Mathlib.Omega.{arith}
use lib.ListN.{length}
use Rattle.automata.specs.Automaton.{Automaton}
use Rattle.automata.specs.Lists.{Each}
use Rattle.automata.specs.Words.{SameLetters, places}
use Rattle.relettering.specs.Relettering.{relettered, with_letters}
use Rattle.relettering.proofs.Laws.{joined-long, joined_same}
use Rattle.file_fields.specs.declared.Counts.{Counts}
use Rattle.format.specs.Decoding.{automaton_of}
use Rattle.format.specs.Encoding.{sizes}
use Rattle.format.specs.Limits.{Fits, Ranges}
use Rattle.file_pair.specs.Lettered.{OverBoth, automaton_over}
use Rattle.file_pair.specs.Pair.{Joinable, letters_of}
use Rattle.file_pair.proofs.Laws.{alike-over, apart-over}
use Rattle.join_parts.specs.Joining.{beyond, join_of, written_of}
use Rattle.join_parts.specs.OwnNumbers.{letters_put, roomy}
use Rattle.join_parts.proofs.LettersPut.{own-letters, put-few, put-sizes, put_written}
use Rattle.join_parts.proofs.NewLetters.{over-same}
use Rattle.join_parts.proofs.WithinLimits.{FewOps}

-- the letters of the first are no more than those of both
pub first-room : (s t : List ℕ) {n : ℕ} → n ≡ length (letters_of s t) → length (automaton_of s).alphabet ≤ n
first-room s t many = omega (arith, (joined-long (automaton_of s).alphabet (automaton_of t).alphabet).0)

-- an automaton z that is made of two files by their own numbers, with the first's letters, and that is their join over any letters once
-- these are put in
module _ (join : Automaton → Automaton → Automaton) (z : Automaton) (k : ℕ) {a b : Counts} {s t : List ℕ} (j : Joinable a b s t) (lists : z.alphabet ≡ (automaton_of s).alphabet)
    (puts : (one two all : List ℕ) → OverBoth a b s t one two all → letters_put k one two all z ≡ join (automaton_over one all s) (automaton_over two all t)) where
  abbrev all : List ℕ
  all = letters_of s t

  abbrev one : List ℕ
  one = places all (automaton_of s).alphabet

  abbrev two : List ℕ
  two = places all (automaton_of t).alphabet

  -- the lists differ: the letters of both are put in
  pub put-apart : letters_put k one two all z ≡ join_of join s t
  put-apart = puts _ _ _ (apart-over j)

  -- they agree: nothing is
  pub put-alike : SameLetters (automaton_of s) (automaton_of t) → roomy (length all) z ≡ join_of join s t
  put-alike same =
      let o = alike-over j same in
      let n : length all ≡ length z.alphabet = ap length (joined_same (automaton_of s).alphabet (automaton_of t).alphabet same ∙ sym lists) in
      own-letters k (length all) z n ∙ ap (λ (l : List ℕ). letters_put k [] [] l z) lists ∙ puts [] [] (automaton_of s).alphabet o ∙ ap₂ join o.first o.second

  -- whichever: the answer is known before, and so are operations and counts within the limits
  module _ {n : ℕ} (many : n ≡ length all) where
    pub own_room : length z.alphabet ≤ n
    own_room = omega (arith, ap length lists, first-room s t many)

    pub own-written : (space : ℕ) → written_of (roomy n z) space ≡ written_of (join_of join s t) space
    own-written space = sym (put_written k n one two all z (sym many) own_room space) ∙ ap (λ (x : Automaton). written_of x space) put-apart

    pub own-few : Each FewOps (join_of join s t).arcs → Each FewOps z.arcs
    own-few h = put-few k n one two all z (rw put-apart h)

    pub own-ranges : Ranges (sizes (join_of join s t)) → Ranges (sizes (roomy n z))
    own-ranges r = subst (λ (c : Counts). Ranges c) (sym (ap sizes put-apart) ∙ put-sizes k n one two all z (sym many) own_room) r

-- a join whose arcs are those of the first, with added empty moves, and then those of the second
module _ (join : Automaton → Automaton → Automaton) (lists : (x y : Automaton) → (join x y).alphabet ≡ x.alphabet)
    (put : (x y : Automaton) (one two all : List ℕ) → letters_put (length y.arcs) one two all (join x y) ≡ join (with_letters one all x) (with_letters two all y))
    {a b : Counts} {s t : List ℕ} (j : Joinable a b s t) {n : ℕ} (many : n ≡ length (letters_of s t)) where
  abbrev x : Automaton
  x = automaton_of s

  abbrev y : Automaton
  y = automaton_of t

  -- over the letters of both the two list the same ones, and are within the limits
  abbrev Over : (Automaton → Automaton → Type 0) → Type 0
  Over P = (u v : Automaton) → Fits u → Fits v → SameLetters u v → P u v

  over : {P : Automaton → Automaton → Type 0} → Over P → P (relettered (letters_of s t) x) (relettered (letters_of s t) y)
  over h = let o = (apart-over j).lettered in h _ _ o.fits₁ o.fits₂ (over-same _ _ (letters_of s t) x y)

  pub written-by_own : (space : ℕ) → written_of (roomy n (join x y)) space ≡ written_of (join_of join s t) space
  written-by_own = own-written join (join x y) (length y.arcs) j (lists x y) (λ one two all _. put x y one two all) many

  pub few-by_own : Over (λ u v. Each FewOps (join u v).arcs) → Each FewOps (join x y).arcs
  few-by_own ops = own-few join (join x y) (length y.arcs) j (lists x y) (λ one two all _. put x y one two all) many (over {P = λ u v. Each FewOps (join u v).arcs} ops)

  pub ranges-by_own : Over (λ u v. beyond (join u v) ≡ false → Fits (join u v)) → beyond (join_of join s t) ≡ false → Ranges (sizes (roomy n (join x y)))
  ranges-by_own fits e =
      own-ranges join (join x y) (length y.arcs) j (lists x y) (λ one two all _. put x y one two all) many (over {P = λ u v. beyond (join u v) ≡ false → Fits (join u v)} fits e).ranges
