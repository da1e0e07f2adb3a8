-- ProductArcs: the arcs of an intersection, group by group, and what a count of arcs says (document 01, 'Joining books').
-- The intersection itself is automata's specs/Joins.antt.
use Rattle.std.specs.Prelude.{◌≡◌, ◌≢◌, ℕ, ◌+◌, ◌<◌, ◌≤◌, drop, length}
use mathlib.Core.List.{List, [], ◌∷◌, ◌++◌, map, flat_map}
use Rattle.std.proofs.Math.Option.{some}
use Rattle.automata.specs.Lists.{any, keep, count_from}
use Rattle.automata.specs.Automaton.{Arc, Automaton}
use Rattle.automata.specs.Joins.{arc_both, arc_left, alike, intersection, is_empty_move}
use Rattle.automata.specs.Words.{places}
use Rattle.relettering.specs.Relettering.{letter_by}
use Rattle.file_fields.specs.declared.Counts.{Counts}
use Rattle.std.specs.Prelude.{Ok}
use Rattle.file_fields.specs.Parts.{arc_size}
use Rattle.format.specs.Decoding.{arc_of, automaton_of}
use Rattle.format.specs.Encoding.{arcs_bytes}
use Rattle.format.specs.Reading.{reading_of}
use Rattle.join_parts.specs.Joining.{many_ops}
use Rattle.join_parts.specs.OwnNumbers.{Others, by_first}
use Rattle.join_product_count.specs.declared.Tally.{Tally}

-- the arc x of the first with each of l of its letter; n states in the second, whose registers move by k
abbrev pub joint_with : ℕ → ℕ → List Arc → Arc → List Arc
joint_with n k l x = flat_map (λ (y : Arc). keep (alike x.letter y.letter) (arc_both n k x y ∷ [])) l

-- where x is an empty move, f x i for each i below n
abbrev pub beside_each : (Arc → ℕ → Arc) → ℕ → Arc → List Arc
beside_each f n x = keep (is_empty_move x.letter) (map (f x) (count_from 0 n))

-- the same of each x of l
abbrev pub empty_with : (Arc → ℕ → Arc) → ℕ → List Arc → List Arc
empty_with f n l = flat_map (beside_each f n) l

-- all that the arc x of the first gives: joint arcs where it has a letter, else itself beside each state of the second
abbrev pub first_with : ℕ → ℕ → List Arc → Arc → List Arc
first_with n k l x = joint_with n k l x ++ beside_each (arc_left n) n x

-- how many arcs there are, how many bytes they take, and whether one has more than 8 operations
pub record Tallied (t : Tally) (l : List Arc) : Type 0 where
  pub arcs : t.arcs ≡ length l
  pub size : t.size ≡ length (arcs_bytes l)
  pub many : t.many ≡ any many_ops l

-- these counts, but n arcs
abbrev pub with_arcs : ℕ → Counts → Counts
with_arcs n c = record { letters = c.letters; states = c.states; registers = c.registers; symbols = c.symbols; arcs = n }

-- ---- by the numbers of the first file's letters (document 02, change 6)
-- the intersection of two files by them, and the numbers of the second's letters
abbrev pub product_of : (first others second : List ℕ) → Automaton
product_of first others second = intersection (automaton_of first) (by_first first others second)

abbrev pub numbers_by : (first others : List ℕ) → List ℕ
numbers_by first others = places (automaton_of first).alphabet others

-- two valid files, and the letters that the second's arcs are matched by
pub record Matchable (a b : Counts) (s t others : List ℕ) : Type 0 where
  pub first : reading_of s ≡ Ok a
  pub second : reading_of t ≡ Ok b
  pub letters : Others s t others

-- of the letters of a file with the counts c, u is the one that has the number l by this list, if any has it; and it is not the byte of an
-- empty move
pub record Matches (c : Counts) (new : List ℕ) (l u : ℕ) : Type 0 where
  pub numbered : u < c.letters → letter_by new u ≡ l
  pub only : (m : ℕ) → m < c.letters → letter_by new m ≡ l → u ≡ m
  pub lettered : u ≢ 255

-- u is the number of the letter l of the first file in any second file that is matched by these letters
abbrev pub OtherLetter : (first others : List ℕ) (l u : ℕ) → Type 0
OtherLetter first others l u = (a b : Counts) (second : List ℕ) → Matchable a b first second others → l < a.letters → Matches b (numbers_by first others) l u

-- an arc of the first of two such files, which stands whole at a place
pub record FirstArc (b : Counts) (s t others : List ℕ) (from : ℕ) : Type 0 where
  pub counts : Counts
  pub files : Matchable counts b s t others
  pub whole : from + arc_size (drop from s) ≤ length s
  pub lettered : (l : ℕ) → (arc_of (drop from s)).letter ≡ some l → l < counts.letters
  pub few_ops : length (arc_of (drop from s)).ops ≤ 8
