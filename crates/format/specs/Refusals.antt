-- Refusals: how each call tells its refusals: one list in their order, each with its reason and the automaton at fault.
use Rattle.std.specs.Prelude.{◌≡◌, ◌⊎◌, Bool, cond, List, [], ◌∷◌, ℕ, Option, Result, Ok, Err}
use Rattle.file_fields.specs.declared.Automaton.{Automaton}
use Rattle.file_fields.specs.declared.Counts.{Counts}
use Rattle.file_fields.specs.declared.Fault.{Fault}
use Rattle.file_fields.specs.declared.Reason.{Reason}
use Rattle.file_fields.specs.declared.Reason.TheVariants.{EndsInsideAField}
use Rattle.file_fields.specs.declared.Refusal.{Refusal}
use Rattle.file_fields.specs.Parts.{number_of}
use Rattle.format.specs.Reading.{reading_of}

-- the number of a file's answer, 0 of a valid file
abbrev pub told_number : Result Counts Fault → ℕ
told_number (Ok c) = 0
told_number (Err f) = number_of f.reason

-- the number of a file's fault, 0 of a valid file
abbrev pub fault_of : List ℕ → ℕ
fault_of file = told_number (reading_of file)

-- the reason of a file's answer; of a valid file, for which no list has it, the first of all
abbrev pub told_reason : Result Counts Fault → Reason
told_reason (Ok c) = EndsInsideAField
told_reason (Err f) = f.reason

-- the reason of a file's fault
abbrev pub reason_of : List ℕ → Reason
reason_of file = told_reason (reading_of file)

-- ---- what is answered, by tests
-- refusals in their order: a test, and where it holds the reason and the automaton at fault
abbrev pub Refusals : Type 0
Refusals = List (Bool × Reason × Option Automaton)

-- the refusal of the first test that holds, else the answer
unfoldable pub unless_refused : {A : Type 0} → (refused : Reason → Option Automaton → A) → Refusals → A → A
unless_refused refused [] answer = answer
unless_refused refused (t ∷ l) answer = cond t.0 (refused t.1 t.2) (unless_refused refused l answer)

-- a refusal as most calls answer it
abbrev pub refused : {A : Type 0} → Reason → Option Automaton → Result A Refusal
refused reason automaton = Err (record { reason = reason; automaton = automaton })

-- ---- what is promised, by conditions
-- the first that holds has the number n and the automaton b; where none holds, both are 0
abbrev pub FirstHolds : List (Type 0 × ℕ × ℕ) → ℕ → ℕ → Type 0
FirstHolds [] n b = (n ≡ 0) × (b ≡ 0)
FirstHolds (c ∷ l) n b = (c.0 × (c.1 ≡ n) × (c.2 ≡ b)) ⊎ ((¬ c.0) × FirstHolds l n b)
