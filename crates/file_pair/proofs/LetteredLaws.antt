-- LetteredLaws: two files that can be joined are lettered: by no new numbers where their lists agree, else by the places of their letters in
-- the joined list. Either way their automata are those over the letters of both.
use mathlib.Core.Path.{◌≡◌, ◌∙◌, ap, refl, sym}
use mathlib.Core.Logic.{inl, inr}
use mathlib.Core.Bool.{true}
use mathlib.Core.List.Memᴰ
use mathlib.Core.List.{List, []}
use Prim.Native.Nat.{ℕ, ◌+◌, ◌-◌, ◌<◌, ◌≤◌}
use native.Mathlib.Omega.{arith}
use lib.ListN.{drop, length, length-map, take}
use Rattle.automata.specs.Automaton.{Arc, Automaton, letters}
use Rattle.automata.specs.Counting.{Apart}
use Rattle.automata.specs.Letters.{keys}
use Rattle.automata.specs.Words.{SameLetters, place, places, same_letters}
use Rattle.automata.proofs.Laws.{same-many}
use Rattle.relettering.specs.Relettering.{letter_by, relettered, relettered_arc, with_letters}
use Rattle.relettering.proofs.Laws.{Inside, first-inside, joined-apart, joined_same, new-inside, relettered-formed, relettered-own, second-inside}
use Rattle.file_fields.specs.declared.Counts.{Counts}
use Rattle.std.specs.Prelude.{Ok}
use Rattle.file_fields.specs.Parts.{ascending, counts_of}
use Rattle.format.specs.Decoding.{automaton_of}
use Rattle.format.specs.Limits.{Fits}
use Rattle.format.specs.Reading.{reading_of}
use Rattle.file_letters.proofs.Laws.{joined-ascends}
use Rattle.file_laws.proofs.Laws.{file-seen, lent_alphabet, valid-fits, valid-letters, valid-sizes}
use Rattle.file_pair.specs.Lettered.{Lettered, Numbers, OverBoth}
use Rattle.file_pair.specs.Pair.{Joinable, both_valid, files_of, letters_of}
use Rattle.file_pair.proofs.PairLaws.{agree_same, files-valid}

-- an automaton within the limits is so with other letters that a file can list
pub relettered-fits : (x : Automaton) (new all : List ℕ) → Fits x → length all ≤ 64 → ascending all ≡ true → Apart (keys all) → ((l : ℕ) → l < letters x → letter_by new l < length all) → Fits (with_letters new all x)
unfolding with_letters
relettered-fits x new all f few ascends apart inside =
    let r = f.ranges in
    record {
      well_formed = relettered-formed x new all inside f.well_formed apart;
      ranges = record { letters = few; some_state = r.some_state; states = r.states; some_register = r.some_register; registers = r.registers; some_symbol = r.some_symbol; symbols = r.symbols; arcs = omega (arith, r.arcs, length-map x.arcs (relettered_arc new)) };
      ascends = ascends;
      some_op = λ a m. let p = Memᴰ.of_map (relettered_arc new) x.arcs m in rw (← ap (λ (b : Arc). length b.ops) p.2) (f.some_op p.0 p.1);
      few_ops = λ a m. let p = Memᴰ.of_map (relettered_arc new) x.arcs m in rw (← ap (λ (b : Arc). length b.ops) p.2) (f.few_ops p.0 p.1);
    }

-- at most 64 new numbers
numbers-few : (n : ℕ) (new : List ℕ) → n ≤ 64 → Numbers n new → length new ≤ 64
numbers-few n new h (inl e) = omega arith
numbers-few n new h (inr e) = omega arith

pub lettered-few : {a b : Counts} {s t one two all : List ℕ} → Lettered a b s t one two all → (length one ≤ 64) × (length two ≤ 64)
lettered-few {a} {b} {s} {t} {one} {two} l = (numbers-few a.letters one (valid-letters s a l.first).0 l.numbers₁, numbers-few b.letters two (valid-letters t b l.second).0 l.numbers₂)

-- a valid file has as many letters as its counts say
pub letters-many : (s : List ℕ) (a : Counts) → reading_of s ≡ Ok a → letters (automaton_of s) ≡ a.letters
letters-many s a e = ap (λ (c : Counts). c.letters) (valid-sizes s a e)

-- the same by the counts that the files' headers say
pub header-lettered : {a b : Counts} {s t one two all : List ℕ} → Lettered a b s t one two all → Lettered (counts_of s) (counts_of t) s t one two all
header-lettered {a} {b} {s} {t} l = rw ((file-seen s a l.first).counts, (file-seen t b l.second).counts) l

module _ {a b : Counts} {s t : List ℕ} (j : Joinable a b s t) where
  abbrev x : Automaton
  x = automaton_of s

  abbrev y : Automaton
  y = automaton_of t

  fits₁ : Fits x
  fits₁ = valid-fits s a j.first

  fits₂ : Fits y
  fits₂ = valid-fits t b j.second

  many₂ : letters y ≡ b.letters
  many₂ = letters-many t b j.second

  -- the lists agree: no number changes
  pub alike-over : SameLetters x y → OverBoth a b s t [] [] x.alphabet
  alike-over shared =
      let same : letters_of s t ≡ x.alphabet = joined_same x.alphabet y.alphabet shared in
      let apart = fits₁.well_formed.letters_apart in
      record {
        lettered = record {
          first = j.first;
          second = j.second;
          numbers₁ = inl refl;
          numbers₂ = inl refl;
          fits₁ = relettered-fits x [] x.alphabet fits₁ fits₁.ranges.letters fits₁.ascends apart (λ l h. h);
          fits₂ = relettered-fits y [] x.alphabet fits₂ fits₁.ranges.letters fits₁.ascends apart (λ l h. omega (arith, same-many x y shared));
        };
        first = sym (relettered-own x.alphabet x refl apart) ∙ ap (λ (all : List ℕ). relettered all x) (sym same);
        second = sym (relettered-own x.alphabet y shared apart) ∙ ap (λ (all : List ℕ). relettered all y) (sym same);
      }

  -- else each letter has its place in the joined list
  pub apart-over : OverBoth a b s t (places (letters_of s t) x.alphabet) (places (letters_of s t) y.alphabet) (letters_of s t)
  apart-over =
      let all = letters_of s t in
      let apart₁ = fits₁.well_formed.letters_apart in
      let apart₂ = fits₂.well_formed.letters_apart in
      let apart = joined-apart x.alphabet y.alphabet apart₁ apart₂ in
      let ascends = joined-ascends x.alphabet y.alphabet fits₁.ascends apart₂ in
      let in₁ : Inside x.alphabet all = first-inside x.alphabet y.alphabet in
      let in₂ : Inside y.alphabet all = second-inside x.alphabet y.alphabet in
      record {
        lettered = record {
          first = j.first;
          second = j.second;
          numbers₁ = inr (length-map x.alphabet (place all) ∙ letters-many s a j.first);
          numbers₂ = inr (length-map y.alphabet (place all) ∙ many₂);
          fits₁ = relettered-fits x (places all x.alphabet) all fits₁ j.few ascends apart (new-inside x.alphabet all in₁);
          fits₂ = relettered-fits y (places all y.alphabet) all fits₂ j.few ascends apart (new-inside y.alphabet all in₂);
        };
        first = refl;
        second = refl;
      }

  -- the same, by lists that are equal to these
  pub over-apart : {one two all : List ℕ} → one ≡ places (letters_of s t) x.alphabet → two ≡ places (letters_of s t) y.alphabet → all ≡ letters_of s t → OverBoth a b s t one two all
  over-apart p q r = rw (p, q, r) apart-over

-- ---- two valid files whose letter lists agree
-- have as many letters together as the first
pub agree_many : (s t : List ℕ) (a : Counts) → reading_of s ≡ Ok a → true ≡ same_letters (automaton_of s) (automaton_of t) → length (letters_of s t) ≡ a.letters
agree_many s t a e agree = ap length (joined_same (automaton_of s).alphabet (automaton_of t).alphabet (agree_same (automaton_of s) (automaton_of t) agree)) ∙ letters-many s a e

-- so they can be joined
pub agree_joinable : {a b : Counts} (s t : List ℕ) → files_of s t ≡ both_valid true a b → Joinable a b s t
agree_joinable {a} s t e = let v = files-valid s t e in record { first = v.0; second = v.1; few = omega (arith, agree_many s t a v.0 v.2, (valid-letters s a v.0).0) }

-- and no number changes, where the letters are lent as the part of the first up to their end
pub lent_over : {a b : Counts} (s t : List ℕ) (end : ℕ) → files_of s t ≡ both_valid true a b → end ≡ 12 + a.letters → OverBoth a b s t [] [] (take (end - 12) (drop 12 s))
lent_over {a} s t end e at = let v = files-valid s t e in rw (lent_alphabet s a v.0 end at) (alike-over (agree_joinable s t e) (agree_same (automaton_of s) (automaton_of t) v.2))
