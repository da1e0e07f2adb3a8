-- Promise: what a caller may rely on, of any list of bytes s that `read` is handed and of any automaton x.
-- `read` answers `reading_of` of the file (crates/format/specs/Reading.antt): its contract is that equation.
use mathlib.Core.Path.{◌≡◌, refl, sym, ap, ◌∙◌, subst}
use mathlib.Core.Logic.{◌↔◌, ◌⊎◌, ◌≢◌, inl, inr}
use mathlib.Core.List.{List, Memᴰ, ◌++◌}
use Prim.Native.Nat.{ℕ, ◌≤◌, ◌<◌}
use native.Mathlib.Omega.{arith}
use lib.ListN.{length}
use Rattle.automata.specs.Automaton.{Automaton, WellFormed}
use Rattle.file_fields.specs.declared.Counts.{Counts}
use Rattle.std.specs.Prelude.{Ok, Err, Result}
use Rattle.file_fields.specs.declared.Fault.{Fault}
use Rattle.file_fields.specs.declared.Reason.{Reason}
use Rattle.file_fields.specs.declared.Reason.TheVariants.{BytesAfterTheLastArc, EndsInsideAField}
use Rattle.file_fields.specs.Parts.{fault, number_of}
use Rattle.format.specs.Reading.{reading_of, told}
use Rattle.format.specs.Refusals.{FirstHolds, fault_of}
use Rattle.format.specs.Decoding.{automaton_of}
use Rattle.format.specs.Encoding.{sizes, bytes_of}
use Rattle.format.specs.Limits.{Fits, Bytes}
use Rattle.file_laws.specs.Wanted.{fault_numbers, faults}
use Rattle.file_laws.proofs.Examples.{each-occurs}
use Rattle.file_laws.proofs.FaultLaws.{number-known, number-positive}
use Rattle.file_laws.proofs.Refusals.{first-exactly}
use Rattle.file_laws.proofs.WantedLaws.{file-first}
use Rattle.file_laws.proofs.PlaceLaws.{place-most}
use Rattle.file_laws.proofs.FrontLaws.{shorter-refused, longer-refused}
use Rattle.file_laws.proofs.ValidLaws.{valid-sizes, valid-fits, valid-longest, valid-well_formed}
use Rattle.file_laws.proofs.EncodingLaws.{bytes-valid, bytes_back}
use Rattle.file_laws.proofs.CanonicalLaws.{valid-bytes}

-- A file is valid, with the counts c, exactly if it is the bytes of an automaton within the limits that has these counts.
pub valid-exactly : (s : List ℕ) (c : Counts) → Bytes s → (reading_of s ≡ Ok c) ↔ ((x : Automaton) × Fits x × (sizes x ≡ c) × (bytes_of x ≡ s))
valid-exactly s c b = (
  λ e. (automaton_of s, valid-fits s c e, valid-sizes s c e, valid-bytes s b c e),
  λ q. subst (λ t. reading_of t ≡ Ok c) q.3 (bytes-valid q.0 q.1 ∙ ap Ok q.2),
)

-- A file is refused, with some number at some place, exactly if it is the bytes of no automaton within the limits.
pub refused-exactly : (s : List ℕ) → Bytes s → ((r : Reason) × (place : ℕ) × (reading_of s ≡ fault r place)) ↔ ((x : Automaton) → Fits x → bytes_of x ≢ s)
refused-exactly s b = (λ q x h e. never q.2 (bytes-valid x h) e, λ none. either (reading_of s) refl none)
  where
    never : {r : Reason} {place : ℕ} {c : Counts} {t : List ℕ} → reading_of s ≡ fault r place → reading_of t ≡ Ok c → t ≡ s → ⊥
    never p q e = let z : ◌≡◌ {A = ℕ} 0 1 = cc in omega arith

    either : (r : Result Counts Fault) → reading_of s ≡ r → ((x : Automaton) → Fits x → bytes_of x ≢ s) → (r : Reason) × (place : ℕ) × (reading_of s ≡ fault r place)
    either (Err f) e none = (f.reason, f.place, e)
    either (Ok c) e none = absurd (none (automaton_of s) (valid-fits s c e) (valid-bytes s b c e))

-- The number of a refusal is one of a file's fault numbers.
pub number-range : (s : List ℕ) (r : Reason) {place : ℕ} → reading_of s ≡ fault r place → Memᴰ (number_of r) fault_numbers
number-range s r e = number-known s r e

-- Each of them is that of some file's fault.
pub number-occurs : (n : ℕ) → Memᴰ n fault_numbers → (s : List ℕ) × (fault_of s ≡ n)
number-occurs n m = each-occurs n m

-- What is told of a file: the number n at a place exactly if these are the number and the place of its first fault (specs/Wanted.antt), or
-- both are 0 and it has none; and the automaton at fault is 1, the one file handed in, where it has one, else 0.
pub told-exactly : (s : List ℕ) (n b place : ℕ)
    → let t = told (reading_of s) in ((t.number ≡ n) × (t.at_fault ≡ b) × (t.place ≡ place))
    ↔ (FirstHolds (faults s) n place × (((n ≡ 0) × (b ≡ 0)) ⊎ ((0 < n) × (b ≡ 1))))
told-exactly s n b place =
    let first = first-exactly (faults s) (file-first s) n place in (
      λ t. (first.0 (t.0, t.2), whose (reading_of s) refl t.0 t.1),
      λ f. let t = first.1 f.0 in (t.0, named (reading_of s) refl t.0 f.1, t.1),
    )
  where
    whose : (r : Result Counts Fault) → reading_of s ≡ r → (told r).number ≡ n → (told r).at_fault ≡ b → ((n ≡ 0) × (b ≡ 0)) ⊎ ((0 < n) × (b ≡ 1))
    whose (Ok c) e p q = inl (sym p, sym q)
    whose (Err f) e p q = inr (omega (arith, number-positive s f.reason e), sym q)

    named : (r : Result Counts Fault) → reading_of s ≡ r → (told r).number ≡ n → ((n ≡ 0) × (b ≡ 0)) ⊎ ((0 < n) × (b ≡ 1)) → (told r).at_fault ≡ b
    named (Ok c) e p (inl h) = sym h.1
    named (Ok c) e p (inr h) = absurd (omega (arith, h.0))
    named (Err f) e p (inl h) = absurd (omega (arith, h.0, number-positive s f.reason e))
    named (Err f) e p (inr h) = sym h.1

-- A file is refused with n at a place exactly if these are the number and the place of its first fault.
pub number-exactly : (s : List ℕ) (n place : ℕ) → ((r : Reason) × (number_of r ≡ n) × (reading_of s ≡ fault r place)) ↔ ((0 < n) × FirstHolds (faults s) n place)
number-exactly s n place =
    let first = first-exactly (faults s) (file-first s) n place in (
      λ q. (subst (λ (m : ℕ). 0 < m) q.1 (number-positive s q.0 q.2), first.0 (ap (λ (r : Result Counts Fault). (told r).number) q.2 ∙ q.1, ap (λ (r : Result Counts Fault). (told r).place) q.2)),
      λ f. let t = first.1 f.1 in refused (reading_of s) refl t.0 t.1 f.0,
    )
  where
    refused : (r : Result Counts Fault) → reading_of s ≡ r → (told r).number ≡ n → (told r).place ≡ place → 0 < n → (r : Reason) × (number_of r ≡ n) × (reading_of s ≡ fault r place)
    refused (Ok c) e p q h = absurd (omega (arith, p))
    refused (Err f) e p q h = (f.reason, p, e ∙ ap (fault f.reason) q)

-- The place of a fault lies in the file, or is its end.
pub place_inside : (s : List ℕ) (r : Reason) (place : ℕ) → reading_of s ≡ fault r place → place ≤ length s
place_inside s r place e = place-most s e

-- A valid file of which the end is missing is refused with 1 ..
pub cut_short : (s t : List ℕ) (c : Counts) → 0 < length t → reading_of (s ++ t) ≡ Ok c → (place : ℕ) × (reading_of s ≡ fault EndsInsideAField place)
cut_short s t c more e = shorter-refused t more s c e

-- .. and one with bytes after it with 9, where these begin.
pub bytes_after : (s t : List ℕ) (c : Counts) → 0 < length t → reading_of s ≡ Ok c → reading_of (s ++ t) ≡ fault BytesAfterTheLastArc (length s)
bytes_after s t c more e = longer-refused t more s c e

-- A valid file has at most 41,292 bytes.
pub longest : (s : List ℕ) (c : Counts) → reading_of s ≡ Ok c → length s ≤ 41292
longest s c e = valid-longest s c e

-- The automaton of a valid file is well-formed, and has the counts that reading answers.
pub valid-automaton : (s : List ℕ) (c : Counts) → reading_of s ≡ Ok c → WellFormed (automaton_of s) × (sizes (automaton_of s) ≡ c)
valid-automaton s c e = (valid-well_formed s c e, valid-sizes s c e)

-- What is written of an automaton within the limits is a valid file with its counts, from which the same automaton is read.
pub round_trip : (x : Automaton) → Fits x → (reading_of (bytes_of x) ≡ Ok (sizes x)) × (automaton_of (bytes_of x) ≡ x)
round_trip x h = (bytes-valid x h, bytes_back x h)

-- Automata within the limits that have the same bytes are the same.
pub bytes-injective : (x y : Automaton) → Fits x → Fits y → bytes_of x ≡ bytes_of y → x ≡ y
bytes-injective x y h k e = sym (bytes_back x h) ∙ ap automaton_of e ∙ bytes_back y k
