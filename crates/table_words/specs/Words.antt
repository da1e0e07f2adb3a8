-- Words: many words judged by one file: which words the lent bytes have, and what is answered of them.
use Rattle.std.specs.Prelude.{cond, List, [], ◌∷◌, ◌++◌, map, ℕ, zero, suc, ◌*◌, ◌+◌, eqb, ltb, drop, length, take, Err, Ok, Result}
use Rattle.file_fields.specs.Parts.{automaton_number, number_of}
use Rattle.file_fields.specs.declared.Refusal.{Refusal}
use Rattle.format.specs.Refusals.{refused, unless_refused}
use Rattle.automata.specs.Automaton.{Automaton}
use Rattle.table.specs.Membership.{judged, membership_of}
use Rattle.table.specs.Opening.{open_refusals}
use Rattle.table.specs.declared.Membership.{Membership}
use Rattle.table.specs.declared.Membership.TheVariants as membership
use Rattle.table_words.specs.declared.Judged.{Judged}

-- how many bytes stand before the first separator, all of them where there is none
unfoldable pub before : (separator : ℕ) → List ℕ → ℕ
before separator [] = 0
before separator (b ∷ s) = cond (eqb b separator) 0 (suc (before separator s))

-- the first words that end in the bytes, at most n: each has a separator behind it, which is not part of it
unfoldable pub words_in : (separator n : ℕ) → List ℕ → List (List ℕ)
unfolding before
words_in separator zero s = []
words_in separator (suc n) s =
    cond (ltb (before separator s) (length s)) (take (before separator s) s ∷ words_in separator n (drop (suc (before separator s)) s)) []

-- how many bytes words take, with the separator behind each
unfoldable pub bytes_of : List (List ℕ) → ℕ
bytes_of [] = 0
bytes_of (word ∷ l) = length word + 1 + bytes_of l

-- an answer in one word: twice the number of live configurations, and one more where the word is accepted
abbrev pub packed : Result Membership Refusal → ℕ
packed (Ok (membership.Accepted n)) = 2 * n + 1
packed (Ok (membership.Rejected n)) = 2 * n
packed (Err r) = 0

-- the answers that the automaton x gives, at document 01's limit
abbrev pub verdicts_of : Automaton → List (List ℕ) → List ℕ
verdicts_of x l = map (λ word. packed (Ok (judged 256 x word))) l

-- the answers: for each word the one that membership gives
abbrev pub answers_of : (file : List ℕ) (l : List (List ℕ)) (words : ℕ) → List ℕ
answers_of file l words = map (λ word. packed (membership_of file word words)) l

-- how many words were judged, and how many bytes they take
unfoldable pub words_judged : List (List ℕ) → Judged
unfolding bytes_of
words_judged l = record { count = length l; bytes = bytes_of l }

-- what is answered, with room for so many answers: the refusals are those of membership
unfoldable pub judged_of : (file bytes : List ℕ) (separator words room : ℕ) → Result Judged Refusal
unfolding open_refusals unless_refused words_in words_judged
judged_of file bytes separator words room = unless_refused refused (open_refusals 256 file words) (Ok (words_judged (words_in separator room bytes)))

-- the answers as the call leaves them: those of the words at the front, the others as they were lent; all as they were where it is refused
unfoldable pub answered : Result Judged Refusal → (front lent : List ℕ) → List ℕ
answered (Ok j) front lent = front ++ drop (length front) lent
answered (Err r) front lent = lent

-- what is told of an answer: how many words were judged, how many bytes they take; the number of the refusal and the automaton at fault, each 0
-- where there is none
pub record Told : Type 0 where
  pub number : ℕ
  pub at_fault : ℕ
  pub count : ℕ
  pub bytes : ℕ

abbrev pub told : Result Judged Refusal → Told
told (Ok j) = record { number = 0; at_fault = 0; count = j.count; bytes = j.bytes }
told (Err r) = record { number = number_of r.reason; at_fault = automaton_number r.automaton; count = 0; bytes = 0 }
