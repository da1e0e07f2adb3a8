-- Answers: what is left of comparing behind the refusals that are ruled out already.
use Rattle.std.specs.Prelude.{◌≡◌, List, ◌++◌, ℕ}
use Rattle.automata.specs.Automaton.{Automaton}
use Rattle.automata.specs.Pairs.{verdict}
use Rattle.relettering.specs.Relettering.{relettered}
use Rattle.format.specs.Decoding.{automaton_of}
use Rattle.format.specs.Refusals.{Refusals, unless_refused}
use Rattle.file_pair.specs.Pair.{letters_of, pair_refusals}
use Rattle.compare_promise.specs.Comparing.{answer_of, buffer_of, bytes_in, refused, table_refusals}
use Rattle.compare_promise.specs.declared.Comparison.{Comparison}

-- r is the answer for x and y where these refusals are left, and the buffer `old` becomes `new`: the contract of comparing from some
-- refusal on
pub record Answers (L P : ℕ) (left : Refusals) (x y : Automaton) (old new : List ℕ) (r : Comparison) : Type 0 where
  pub answer : r ≡ unless_refused refused left (answer_of (verdict x y L P))
  pub buffer : new ≡ buffer_of r (bytes_in x.alphabet (verdict x y L P)) old

-- the same at document 01's limits
abbrev pub AnswersAtLimits : (left : Automaton → Automaton → Refusals) (x y : Automaton) (old new : List ℕ) → Comparison → Type 0
AnswersAtLimits left x y old new r = Answers 256 512 (left x y) x y old new r

-- of the automata in two files, over the letters of both
abbrev pub AnswersOver : (left : Automaton → Automaton → Refusals) (first second old new : List ℕ) → Comparison → Type 0
AnswersOver left first second old new r = AnswersAtLimits left (relettered (letters_of first second) (automaton_of first)) (relettered (letters_of first second) (automaton_of second)) old new r

-- of two files behind 24: their faults, 11, and those of the tables
abbrev pub AnswersOfFiles : (first second old new : List ℕ) → Comparison → Type 0
AnswersOfFiles first second old new r = AnswersOver (λ x y. pair_refusals first second ++ table_refusals 256 2048 512 x y) first second old new r
