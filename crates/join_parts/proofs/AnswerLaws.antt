-- AnswerLaws: what the answer for a joined automaton says: 11, 25 or its length, each exactly where it holds.
use mathlib.Core.Path.{◌≡◌, refl, ap, ap₂, subst, sym}
use mathlib.Core.Bool.{Bool, false, true}
use mathlib.Core.List.{List}
use Prim.Native.Nat.{◌<◌, ◌≤◌, ℕ}
use native.Mathlib.Omega.{arith}
use borrow.Author.Tests.{le-ltb, lt-ltb, ltb-false}
use lib.Dec.{ltb}
use lib.ListN.{length}
use Rattle.automata.specs.Automaton.{Automaton}
use Rattle.automata.specs.Lists.{Each}
use Rattle.automata.specs.Joins.{closure}
use Rattle.file_fields.specs.declared.Counts.{Counts}
use Rattle.std.specs.Prelude.{Err, None, Ok, Result, Some}
use Rattle.file_fields.specs.declared.Automaton.TheVariants.{First}
use Rattle.file_fields.specs.declared.Fault.{Fault}
use Rattle.file_fields.specs.declared.Reason.{Reason}
use Rattle.file_fields.specs.declared.Reason.TheVariants.{JoinedBeyondALimit}
use Rattle.file_fields.specs.declared.Refusal.{Refusal}
use Rattle.file_fields.specs.Parts.{fault}
use Rattle.format.specs.Reading.{reading_of}
use Rattle.format.specs.Refusals.{fault_of, refused, told_number, told_reason}
use Rattle.format.specs.Decoding.{automaton_of}
use Rattle.format.specs.Encoding.{bytes_of, sizes}
use Rattle.file_laws.proofs.Laws.{has-fault}
use Rattle.file_writing.specs.Answers.{output_of}
use Rattle.file_pair.specs.declared.Pair.{Pair}
use Rattle.file_pair.specs.Pair.{files_of, letters_of}
use Rattle.file_pair.proofs.Laws.{files-many, files-passed, files-refused}
use Rattle.join_parts.specs.Joining.{automaton_refusals, beyond, closed_of, decided, join_of, joined_of, many_counts, written_of}
use Rattle.join_parts.proofs.WithinLimits.{FewOps, beyond-counts}

pub record Whole (x : Automaton) (space n : ℕ) : Type 0 where
  pub within : beyond x ≡ false
  pub room : length (bytes_of x) ≤ space
  pub size : length (bytes_of x) ≡ n

module _ (x : Automaton) (space : ℕ) where
  -- a length
  pub written-bytes : {n : ℕ} → written_of x space ≡ Ok n → Whole x space n
  unfolding written_of
  written-bytes {n} e = go (beyond x) (ltb space (length (bytes_of x))) refl refl e
    where
      go : (over short : Bool) → beyond x ≡ over → ltb space (length (bytes_of x)) ≡ short → written_of x space ≡ Ok n → Whole x space n
      go true short p q e = let z : ◌≡◌ {A = ℕ} 0 1 = cc in absurd (omega arith)
      go false true p q e = let z : ◌≡◌ {A = ℕ} 0 1 = cc in absurd (omega arith)
      go false false p q e = record { within = p; room = ltb-false _ _ q; size = cc }

  -- what the code decides by, where no arc has more than 8 operations
  pub decided-written : (c : Counts) (size : ℕ) → Each FewOps x.arcs → sizes x ≡ c → length (bytes_of x) ≡ size → decided (many_counts c) size space ≡ written_of x space
  unfolding written_of
  decided-written c size h n l = sym (rw (beyond-counts x h) (ap₂ (λ (d : Counts) (m : ℕ). decided (many_counts d) m space) n l))

-- ---- the output
-- what an answer says of it, by another name of the answer; and a refusal, that it is as it was
module _ (file old : List ℕ) where
  pub as-told : {r q : Result ℕ Refusal} {out : List ℕ} → r ≡ q → out ≡ output_of r file old → out ≡ output_of q file old
  as-told {out = out} e h = subst (λ (a : Result ℕ Refusal). out ≡ output_of a file old) e h

  pub unchanged : {r : Result ℕ Refusal} (why : Refusal) → r ≡ Err why → old ≡ output_of r file old
  unchanged why e = rw e

-- ---- a call's answer, by what the files are: their refusal; 11, more than 64 letters together; or the answer for the joined automaton
module _ (join : Automaton → Automaton → Automaton) (s t : List ℕ) (space : ℕ) where
  abbrev x : Automaton
  x = join_of join s t

  pub joined-fault : {r : Refusal} → files_of s t ≡ Err r → joined_of join s t space ≡ Err r
  unfolding joined_of
  joined-fault e = files-refused s t refused (automaton_refusals x space) (Ok (length (bytes_of x))) e

  module _ {p : Pair} (e : files_of s t ≡ Ok p) where
    pub joined-many : 64 < length (letters_of s t) → joined_of join s t space ≡ refused JoinedBeyondALimit None
    unfolding joined_of
    joined-many h = files-many s t refused (automaton_refusals x space) (Ok (length (bytes_of x))) e h

    pub joined-both : length (letters_of s t) ≤ 64 → joined_of join s t space ≡ written_of x space
    unfolding joined_of written_of
    joined-both h = files-passed s t refused (automaton_refusals x space) (Ok (length (bytes_of x))) e h

-- the same of closure's one file
module _ (s : List ℕ) (space : ℕ) where
  pub closed-fault : {r : Reason} {place : ℕ} → reading_of s ≡ fault r place → closed_of s space ≡ refused r (Some First)
  unfolding closed_of
  closed-fault {r} e = rw (lt-ltb 0 (fault_of s) (has-fault s r e)) (ap (λ (a : Result Counts Fault). refused (told_reason a) (Some First)) e)

  pub closed-valid : {c : Counts} → reading_of s ≡ Ok c → closed_of s space ≡ written_of (closure (automaton_of s)) space
  unfolding closed_of written_of
  closed-valid e = rw (le-ltb 0 (fault_of s) (omega (arith, ap told_number e)))
