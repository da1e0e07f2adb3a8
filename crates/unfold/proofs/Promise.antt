-- Promise: what unfolding's answer and the output say of the bytes handed in (demand 2, and the exact condition of each refusal): see
-- specs/Promised.antt.
use mathlib.Core.Path.{◌∙◌, ◌≡◌, ap, refl, subst, sym}
use mathlib.Core.Logic.{inl, inr}
use mathlib.Core.List.{List, ◌++◌}
use Prim.Native.Nat.{◌≤◌, ℕ}
use native.Mathlib.Omega.{arith}
use lib.ListN.{drop, length}
use lib.Seq.{drop_at, take_at}
use Rattle.automata.specs.Automaton.{Automaton}
use Rattle.automata.specs.Unfolding.{configurations, plain_arcs, unfolded}
use Rattle.automata.proofs.Laws.{reaching_more, unfolding_language}
use Rattle.file_fields.specs.declared.Counts.{Counts}
use Rattle.std.specs.Prelude.{None, Ok, Option, Result, Some}
use Rattle.file_fields.specs.declared.Automaton.{Automaton as Blamed}
use Rattle.file_fields.specs.declared.Automaton.TheVariants.{First}
use Rattle.file_fields.specs.declared.Reason.{Reason}
use Rattle.file_fields.specs.declared.Reason.TheVariants.{OutputTooShort, TooLittleMemoryLent, TooManyConfigurations, TooManyPlainArcs}
use Rattle.file_fields.specs.declared.Refusal.{Refusal}
use Rattle.format.specs.Decoding.{automaton_of}
use Rattle.format.specs.Encoding.{bytes_of, sizes}
use Rattle.file_fields.specs.Parts.{automaton_number, number_of}
use Rattle.format.specs.Reading.{reading_of}
use Rattle.format.specs.Refusals.{FirstHolds, fault_of, refused as refusal, told_number}
use Rattle.file_laws.proofs.Laws.{Decide, NoneHolds, Outcome, at_least, fault_decided, first-exactly, first_some, less-decided, no_fault, none_first, number-above, reach-decided, refused-or_not, round_trip, valid-fits}
use Rattle.file_writing.specs.Answers.{output_of, told}
use Rattle.unfold.specs.Promised.{Answered, Promised, Unfolds, conditions}
use Rattle.unfold.specs.Unfolding.{refusals, unfolding_of}
use Rattle.unfold.proofs.UnfoldedTwice.{same-many, same-plain, unfolded-again}
use Rattle.unfold.proofs.UnfoldedFits.{unfolded-fits}

-- ---- the bytes written
module _ (file : List ℕ) (c : Counts) (valid : reading_of file ≡ Ok c) (few : length (configurations (automaton_of file) 256) ≤ 256) (few_arcs : length (plain_arcs (automaton_of file) 256) ≤ 2048) where
  abbrev x : Automaton
  x = automaton_of file

  abbrev result : List ℕ
  result = bytes_of (unfolded x 256)

  back : (reading_of result ≡ Ok (sizes (unfolded x 256))) × (automaton_of result ≡ unfolded x 256)
  back = round_trip (unfolded x 256) (unfolded-fits x (valid-fits file c valid) (omega arith) few few_arcs)

  same_bytes : bytes_of (unfolded (automaton_of result) 256) ≡ result
  same_bytes = ap (λ (y : Automaton). bytes_of (unfolded y 256)) back.1 ∙ ap bytes_of (unfolded-again x 256 few)

  answered-again : (words space : ℕ) → 8192 ≤ words → length result ≤ space → Answered result words space
  answered-again words space h k =
      let m = ap (λ (z : Automaton). length (configurations z 256)) back.1 ∙ same-many x 256 few in
      let n = ap (λ (z : Automaton). length (plain_arcs z 256)) back.1 ∙ ap length (same-plain x 256 few) in
      let s = ap length same_bytes in
      record {
        enough = h;
        valid = ap told_number back.0;
        few = λ q. omega (arith, (reaching_more (automaton_of result) 256).1 q);
        few_arcs = omega arith;
        room = omega arith;
      }

  unfolds : Unfolds file result
  unfolding unfolded
  unfolds = record {
    valid = ap told_number back.0;
    automaton = back.1;
    one_register = ap (λ (y : Automaton). y.registers) back.1;
    one_symbol = ap (λ (y : Automaton). y.symbols) back.1;
    same_words = λ word. rw back.1 (unfolding_language x 256 few word);
    again = answered-again;
    same_bytes = same_bytes;
  }

-- ---- the whole answer
module _ (file : List ℕ) (words : ℕ) (old : List ℕ) where
  abbrev X : Automaton
  X = automaton_of file

  abbrev written : List ℕ
  written = bytes_of (unfolded X 256)

  abbrev cs : List (Type 0 × ℕ × ℕ)
  cs = conditions file words (length old)

  refusals-decide : Decide (refusals 256 2048 file words (length old)) cs
  unfolding refusals
  refusals-decide = (
    less-decided words 8192 TooLittleMemoryLent None,
    (
      fault_decided file (Some First),
      (
        reach-decided X 256 TooManyConfigurations (Some First),
        (less-decided 2048 (length (plain_arcs X 256)) TooManyPlainArcs (Some First), (less-decided (length old) (length written) OutputTooShort None, tt)),
      ),
    ),
  )

  -- nothing is refused where no condition holds
  none_of : Answered file words (length old) → NoneHolds cs
  none_of a = (λ h. omega (arith, a.enough), (λ h. omega (arith, a.valid), (a.few, (λ h. omega (arith, a.few_arcs), (λ h. omega (arith, a.room), tt)))))

  answered-of : NoneHolds cs → Answered file words (length old)
  answered-of h =
      let z = at_least 0 (fault_of file) h.1.0 in
      record {
        enough = at_least words 8192 h.0;
        valid = omega arith;
        few = h.1.1.0;
        few_arcs = at_least 2048 (length (plain_arcs X 256)) h.1.1.1.0;
        room = at_least (length old) (length written) h.1.1.1.1.0;
      }

  refused : (why : Reason) (whose : Option Blamed) → FirstHolds cs (number_of why) (automaton_number whose) → Promised file words old old (told (refusal why whose))
  refused why whose f = record {
    size = λ z. absurd (omega (arith, number-above why, z));
    written = λ z. absurd (omega (arith, number-above why, z));
    behind = λ z. absurd (omega (arith, number-above why, z));
    untouched = λ _. refl;
    sizeless = λ _. refl;
    none = (λ z. absurd (omega (arith, number-above why, z)), λ a. absurd (first_some cs (number_of why) (automaton_number whose) (number-above why) f (none_of a)));
    refuses = first-exactly cs f;
  }

  answered : Answered file words (length old) → Promised file words old (written ++ drop (length written) old) (told (Ok (length written)))
  answered a = record {
    size = λ _. refl;
    written = λ _. rw (take_at written (drop (length written) old) (length written) refl) (unfolds file v.0 v.1 few a.few_arcs);
    behind = λ _. drop_at written (drop (length written) old) (length written) refl;
    untouched = λ q. absurd (q refl);
    sizeless = λ q. absurd (q refl);
    none = (λ _. a, λ _. refl);
    refuses = first-exactly cs (none_first cs (none_of a));
  }
    where
      v : (c : Counts) × (reading_of file ≡ Ok c)
      v = no_fault file a.valid

      few : length (configurations X 256) ≤ 256
      few = at_least 256 (length (configurations X 256)) (λ h. a.few ((reaching_more X 256).0 h))

  abbrev Right : Result ℕ Refusal → Type 0
  Right r = Promised file words old (output_of r written old) (told r)

  -- THE PROMISE of unfolding.
  pub unfolding_promised : let r = unfolding_of file words (length old) in Promised file words old (output_of r (bytes_of (unfolded (automaton_of file) 256)) old) (told r)
  unfolding unfolding_of
  unfolding_promised = either (refused-or_not refusal (Ok (length written)) (refusals 256 2048 file words (length old)) cs refusals-decide)
    where
      either : Outcome refusal (Ok (length written)) cs (unfolding_of file words (length old)) → Right (unfolding_of file words (length old))
      either (inl h) = subst Right (sym h.1) (answered (answered-of h.0))
      either (inr h) = subst Right (sym h.3) (refused h.0 h.1 h.2)
