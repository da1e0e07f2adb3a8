-- Pair: what is refused of two files before they are joined or compared, and what is known of them then (document 01, the order of
-- refusals; document 02, changes 4 and 6: which letter lists agree, and how many letters both have together).
use Rattle.std.specs.Prelude.{◌≡◌, Bool, List, [], ◌∷◌, ◌++◌, ℕ, None, Ok, Result, Some, ◌≤◌, ltb, length}
use Rattle.automata.specs.Words.{same_letters}
use Rattle.relettering.specs.Relettering.{letters_of_both}
use Rattle.file_fields.specs.declared.Counts.{Counts}
use Rattle.file_fields.specs.Parts.{counts_of}
use Rattle.format.specs.Reading.{reading_of}
use Rattle.format.specs.Refusals.{Refusals, fault_of, reason_of, refused, unless_refused}
use Rattle.format.specs.Decoding.{automaton_of}
use Rattle.file_fields.specs.declared.Automaton.TheVariants.{First, Second}
use Rattle.file_fields.specs.declared.Reason.TheVariants.{JoinedBeyondALimit}
use Rattle.file_fields.specs.declared.Refusal.{Refusal}
use Rattle.file_pair.specs.declared.Pair.{Pair}

-- the letters of the automata in two files
abbrev pub letters_of : (first second : List ℕ) → List ℕ
letters_of first second = letters_of_both (automaton_of first) (automaton_of second)

-- ---- the refusals in their order, each a test, and where it holds the reason and the automaton at fault
-- the first file's fault; the second's
abbrev pub file_refusals : (first second : List ℕ) → Refusals
file_refusals first second =
    (ltb 0 (fault_of first), reason_of first, Some First)
    ∷ (ltb 0 (fault_of second), reason_of second, Some Second)
    ∷ []

-- behind them 11, more than 64 letters together
unfoldable pub pair_refusals : (first second : List ℕ) → Refusals
pair_refusals first second = file_refusals first second ++ (ltb 64 (length (letters_of first second)), JoinedBeyondALimit, None) ∷ []

-- the answer of two valid files: whether their letter lists agree, and their counts
abbrev pub both_valid : Bool → Counts → Counts → Result Pair Refusal
both_valid agree first second = Ok (record { agree = agree; first = first; second = second })

-- what reading the two answers: the first fault, or whether their letter lists agree, and the counts of both
unfoldable pub files_of : List ℕ → List ℕ → Result Pair Refusal
unfolding unless_refused
files_of first second = unless_refused refused (file_refusals first second) (both_valid (same_letters (automaton_of first) (automaton_of second)) (counts_of first) (counts_of second))

-- both are valid, and have at most 64 letters together
pub record Joinable (a b : Counts) (s t : List ℕ) : Type 0 where
  pub first : reading_of s ≡ Ok a
  pub second : reading_of t ≡ Ok b
  pub few : length (letters_of s t) ≤ 64
