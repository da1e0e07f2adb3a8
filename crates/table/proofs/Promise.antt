-- Promise: what membership's answer says of the bytes handed in (demand 2, and the exact condition of each refusal): see
-- specs/Promised.antt.
use mathlib.Core.Path.{refl, sym, subst}
use mathlib.Core.Logic.{◌↔◌, inl, inr}
use mathlib.Core.Bool.{Bool, cond, false, true}
use mathlib.Core.List.{List}
use Prim.Native.Nat.{ℕ}
use native.Mathlib.Omega.{arith}
use lib.Dec.{T}
use lib.ListN.{length}
use Rattle.automata.specs.Automaton.{Automaton}
use Rattle.automata.specs.Counting.{Exactly}
use Rattle.automata.specs.Unfolding.{accepted_bytes, configurations, live_count}
use Rattle.automata.specs.Words.{Language, LiveAfter}
use Rattle.automata.proofs.Laws.{membership, reaching_more}
use Rattle.format.specs.Decoding.{automaton_of}
use Rattle.std.specs.Prelude.{None, Ok, Option, Result, Some}
use Rattle.file_fields.specs.Parts.{automaton_number, number_of}
use Rattle.file_fields.specs.declared.Automaton.{Automaton as Blamed}
use Rattle.file_fields.specs.declared.Automaton.TheVariants.{First}
use Rattle.file_fields.specs.declared.Reason.{Reason}
use Rattle.file_fields.specs.declared.Reason.TheVariants.{TooLittleMemoryLent, TooManyConfigurations}
use Rattle.file_fields.specs.declared.Refusal.{Refusal}
use Rattle.format.specs.Refusals.{FirstHolds, fault_of, refused as refusal}
use Rattle.file_laws.proofs.Laws.{Decide, NoneHolds, Outcome, at_least, fault_decided, first-exactly, first_some, less-decided, no_fault, none_first, number-above, reach-decided, refused-or_not, valid-automaton}
use Rattle.table.specs.Membership.{judged, membership_of, told}
use Rattle.table.specs.Opening.{open_refusals}
use Rattle.table.specs.Promised.{Answered, Promised, conditions}
use Rattle.table.specs.declared.Membership.{Membership}
use Rattle.table.specs.declared.Membership.TheVariants.{Accepted, Rejected}

module _ (file word : List ℕ) (words : ℕ) where
  abbrev x : Automaton
  x = automaton_of file

  abbrev cs : List (Type 0 × ℕ × ℕ)
  cs = conditions file words

  refusals-decide : Decide (open_refusals 256 file words) cs
  unfolding open_refusals
  refusals-decide = (less-decided words 8192 TooLittleMemoryLent None, (fault_decided file (Some First), (reach-decided x 256 TooManyConfigurations (Some First), tt)))

  -- ---- nothing is refused where no condition holds
  none_of : Answered file words → NoneHolds cs
  none_of a = (λ h. omega (arith, a.enough), (λ h. omega (arith, a.valid), (a.few, tt)))

  answered-of : NoneHolds cs → Answered file words
  answered-of h = let z = at_least 0 (fault_of file) h.1.0 in record { enough = at_least words 8192 h.0; valid = omega arith; few = h.1.1.0 }

  -- ---- the answers
  refused : (why : Reason) (whose : Option Blamed) → FirstHolds cs (number_of why) (automaton_number whose) → Promised file word words (told (refusal why whose))
  refused why whose f = record {
    accepts = (λ t. absurd t, λ p. absurd (some p.0));
    counts = λ a. absurd (some a);
    none = (λ z. absurd (omega (arith, number-above why, z)), λ a. absurd (some a));
    refuses = first-exactly cs f;
  }
    where
      some : ¬ Answered file words
      some a = first_some cs (number_of why) (automaton_number whose) (number-above why) f (none_of a)

  answered : Answered file words → Promised file word words (told (Ok (judged 256 x word)))
  unfolding judged
  answered a = go (accepted_bytes x 256 word) right.0 right.1
    where
      right : (T (accepted_bytes x 256 word) ↔ Language x word) × Exactly (LiveAfter x word) (live_count x 256 word)
      right =
          let v = no_fault file a.valid in
          membership x 256 (at_least 256 (length (configurations x 256)) (λ h. a.few ((reaching_more x 256).0 h))) (valid-automaton file v.0 v.1).0.letters_apart word

      go : (b : Bool) → T b ↔ Language x word → Exactly (LiveAfter x word) (live_count x 256 word) → Promised file word words (told (Ok (cond b (Accepted (live_count x 256 word)) (Rejected (live_count x 256 word)))))
      go true l n = record { accepts = (λ t. (a, l.0 t), λ p. tt); counts = λ _. n; none = (λ _. a, λ _. refl); refuses = first-exactly cs (none_first cs (none_of a)) }
      go false l n = record { accepts = (λ t. absurd t, λ p. l.1 p.1); counts = λ _. n; none = (λ _. a, λ _. refl); refuses = first-exactly cs (none_first cs (none_of a)) }

  -- THE PROMISE of membership.
  pub membership_promised : Promised file word words (told (membership_of file word words))
  unfolding membership_of
  membership_promised = either (refused-or_not refusal (Ok (judged 256 x word)) (open_refusals 256 file words) cs refusals-decide)
    where
      either : Outcome refusal (Ok (judged 256 x word)) cs (membership_of file word words) → Promised file word words (told (membership_of file word words))
      either (inl h) = subst (λ (r : Result Membership Refusal). Promised file word words (told r)) (sym h.1) (answered (answered-of h.0))
      either (inr h) = subst (λ (r : Result Membership Refusal). Promised file word words (told r)) (sym h.3) (refused h.0 h.1 h.2)
