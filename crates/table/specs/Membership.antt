-- Membership: what membership answers of a file, a word and the number of working words lent (document 01, 'Runs and slips' and the
-- order of refusals).
use Rattle.std.specs.Prelude.{Bool, cond, false, true, List, ℕ, Err, Ok, Result}
use Rattle.automata.specs.Automaton.{Automaton}
use Rattle.automata.specs.Unfolding.{accepted_bytes, live_count}
use Rattle.format.specs.Decoding.{automaton_of}
use Rattle.file_fields.specs.Parts.{automaton_number, number_of}
use Rattle.file_fields.specs.declared.Refusal.{Refusal}
use Rattle.format.specs.Refusals.{refused, unless_refused}
use Rattle.table.specs.Opening.{open_refusals}
use Rattle.table.specs.declared.Membership.{Membership}
use Rattle.table.specs.declared.Membership.TheVariants.{Accepted, Rejected}

-- the answer: whether an automaton with at most L configurations accepts the word, and how many are live
unfoldable pub judged : ℕ → Automaton → List ℕ → Membership
judged L x word = cond (accepted_bytes x L word) (Accepted (live_count x L word)) (Rejected (live_count x L word))

-- the whole answer, at document 01's limit: the refusals are those of opening the file
unfoldable pub membership_of : (file word : List ℕ) (words : ℕ) → Result Membership Refusal
unfolding open_refusals unless_refused
membership_of file word words = unless_refused refused (open_refusals 256 file words) (Ok (judged 256 (automaton_of file) word))

-- what document 01 tells of an answer: the number of the refusal and the automaton at fault, each 0 where there is none; whether the
-- word is accepted, and how many configurations are live
pub record Told : Type 0 where
  pub number : ℕ
  pub at_fault : ℕ
  pub accepted : Bool
  pub live : ℕ

-- an answer as document 01 tells it
abbrev pub told : Result Membership Refusal → Told
told (Ok (Accepted n)) = record { number = 0; at_fault = 0; accepted = true; live = n }
told (Ok (Rejected n)) = record { number = 0; at_fault = 0; accepted = false; live = n }
told (Err r) = record { number = number_of r.reason; at_fault = automaton_number r.automaton; accepted = false; live = 0 }
