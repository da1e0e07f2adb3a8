-- Lettered: two valid files, and the letters that they are joined or compared over (document 02, change 6): for each file a list of the new
-- numbers of its letters. A number beyond that list is left alone, so the empty list says that no number changes.
use Rattle.std.specs.Prelude.{◌≡◌, ◌⊎◌, List, ℕ, Ok, length}
use Rattle.automata.specs.Automaton.{Automaton}
use Rattle.relettering.specs.Relettering.{relettered, with_letters}
use Rattle.file_fields.specs.declared.Counts.{Counts}
use Rattle.format.specs.Decoding.{automaton_of}
use Rattle.format.specs.Limits.{Fits}
use Rattle.format.specs.Reading.{reading_of}
use Rattle.file_pair.specs.Pair.{letters_of}

-- the automaton of a file over the letters `all`, its arcs by the new numbers
abbrev pub automaton_over : (new all file : List ℕ) → Automaton
automaton_over new all file = with_letters new all (automaton_of file)

-- new numbers of n letters: of each, or of none
abbrev pub Numbers : (n : ℕ) (new : List ℕ) → Type 0
Numbers n new = (length new ≡ 0) ⊎ (length new ≡ n)

-- over these letters each automaton is within the limits
pub record Lettered (a b : Counts) (s t one two all : List ℕ) : Type 0 where
  pub first : reading_of s ≡ Ok a
  pub second : reading_of t ≡ Ok b
  pub numbers₁ : Numbers a.letters one
  pub numbers₂ : Numbers b.letters two
  pub fits₁ : Fits (automaton_over one all s)
  pub fits₂ : Fits (automaton_over two all t)

-- and these are the letters of both: the automata are those that the definitions join and compare
pub record OverBoth (a b : Counts) (s t one two all : List ℕ) : Type 0 where
  pub lettered : Lettered a b s t one two all
  pub first : automaton_over one all s ≡ relettered (letters_of s t) (automaton_of s)
  pub second : automaton_over two all t ≡ relettered (letters_of s t) (automaton_of t)
