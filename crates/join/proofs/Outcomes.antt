-- Outcomes: each answer of a joining call keeps the promises (specs/Promises.antt): of two files, whatever their join is, if it has a
-- file where it is within the limits and the words that it is to have; and of one file, closure.
use mathlib.Core.Path.{◌∙◌, ◌≡◌, ap, refl, subst, sym}
use mathlib.Core.Logic.{◌↔◌, inl, inr}
use mathlib.Core.Bool.{false}
use mathlib.Core.List.{List, ◌++◌}
use Prim.Native.Nat.{◌≤◌, ℕ}
use native.Mathlib.Omega.{arith}
use lib.ListN.{drop, length, take}
use lib.Seq.{drop_at, take_at}
use Rattle.automata.specs.Automaton.{Automaton, WellFormed}
use Rattle.automata.specs.Joins.{closure}
use Rattle.automata.specs.Words.{Language, SameLetters}
use Rattle.automata.proofs.Laws.{closing, iff-trans}
use Rattle.relettering.specs.Relettering.{relettered, with_letters}
use Rattle.relettering.proofs.Laws.{first-inside, relettered-language, second-inside}
use Rattle.format.specs.Decoding.{automaton_of}
use Rattle.format.specs.Encoding.{bytes_of}
use Rattle.format.specs.Limits.{Fits}
use Rattle.std.specs.Prelude.{None, Ok, Option, Result}
use Rattle.file_fields.specs.declared.Automaton.{Automaton as Blamed}
use Rattle.file_fields.specs.declared.Reason.{Reason}
use Rattle.file_fields.specs.declared.Reason.TheVariants.{JoinedBeyondALimit}
use Rattle.file_fields.specs.declared.Refusal.{Refusal}
use Rattle.file_fields.specs.Parts.{automaton_number, number_of}
use Rattle.format.specs.Refusals.{FirstHolds, fault_of, refused as refusal, told_number}
use Rattle.file_laws.proofs.Laws.{Decide, Decides, NoneHolds, Outcome, at_least, decided, fault_decided, first-exactly, first_some, less-decided, no_fault, none_first, number-above, refused-or_not, round_trip, valid-fits}
use Rattle.file_writing.specs.Answers.{output_of, told}
use Rattle.file_writing.proofs.Laws.{refusal_sizeless}
use Rattle.file_pair.specs.Pair.{letters_of}
use Rattle.file_pair.proofs.Laws.{apart-over}
use Rattle.join_parts.specs.Joining.{beyond, close_refusals, closed_of, join_of, join_refusals, joined_of}
use Rattle.join.specs.Promises.{Beyond, ClosurePromised, FileOf, JoinPromised, Promised, ValidPair, close_conditions, join_conditions}
use Rattle.join.proofs.BeyondLaws.{beyond-iff, not_beyond}
use Rattle.join_closure.proofs.Laws.{closure-fits}

-- ---- the joined automaton x
beyond-decided : (x : Automaton) → Decides (beyond x, JoinedBeyondALimit, None) (Beyond x, 11, 0)
beyond-decided x = decided (beyond x) _ _ (beyond-iff x)

-- its file, at the front of the output
stands : (x : Automaton) (listed : List ℕ) (Words : List ℕ → Type 0) (old : List ℕ) → x.alphabet ≡ listed → ((word : List ℕ) → Language x word ↔ Words word) → Fits x
    → FileOf x listed Words (length (bytes_of x)) old (bytes_of x ++ drop (length (bytes_of x)) old)
stands x listed Words old lists accepts fits =
    let file = bytes_of x in
    let front : take (length file) (file ++ drop (length file) old) ≡ file = take_at file (drop (length file) old) (length file) refl in
    let back = round_trip x fits in
    let same : automaton_of (take (length file) (file ++ drop (length file) old)) ≡ x = ap automaton_of front ∙ back.1 in
    record {
      there = ap length front;
      valid = ap fault_of front ∙ ap told_number back.0;
      automaton = same;
      letters = ap (λ (y : Automaton). y.alphabet) same ∙ lists;
      accepts = rw same accepts;
      behind = drop_at file (drop (length file) old) (length file) refl;
    }

-- ---- THE GENERAL PROMISE, of a call with the refusals' conditions cs: its answer r and what it leaves in the output keep it
module _ (cs : List (Type 0 × ℕ × ℕ)) (Ready : Type 0) (x : Automaton) (listed : List ℕ) (Words : List ℕ → Type 0) (old : List ℕ) where
  -- nothing is to be refused
  abbrev Answered : Type 0
  Answered = Ready × (¬ Beyond x) × (length (bytes_of x) ≤ length old)

  -- the answer r and the output that it says
  abbrev Keeps : Result ℕ Refusal → Type 0
  Keeps r = Promised cs Ready x listed Words old (output_of r (bytes_of x) old) (told r)

  module _ (none : NoneHolds cs ↔ Answered) (file : Answered → FileOf x listed Words (length (bytes_of x)) old (bytes_of x ++ drop (length (bytes_of x)) old)) where
    -- a refusal; the joined file; and whichever of the two the tests say
    refused : (why : Reason) (whose : Option Blamed) → FirstHolds cs (number_of why) (automaton_number whose) → Keeps (refusal why whose)
    refused why whose f = record {
      size = λ z. absurd (omega (arith, number-above why));
      file = λ z. absurd (omega (arith, number-above why));
      unchanged = λ _. refl;
      sizeless = λ _. refusal_sizeless (record { reason = why; automaton = whose });
      none = (λ z. absurd (omega (arith, number-above why)), λ a. absurd (first_some cs (number_of why) (automaton_number whose) (number-above why) f (none.1 a)));
      refuses = first-exactly cs f;
    }

    answered : Answered → Keeps (Ok (length (bytes_of x)))
    answered a = record {
      size = λ _. refl;
      file = λ _. file a;
      unchanged = λ q. absurd (q refl);
      sizeless = λ q. absurd (q refl);
      none = (λ _. a, λ _. refl);
      refuses = first-exactly cs (none_first cs (none.1 a));
    }

    kept : (r : Result ℕ Refusal) → Outcome refusal (Ok (length (bytes_of x))) cs r → Keeps r
    kept r (inl h) = subst Keeps (sym h.1) (answered (none.0 h.0))
    kept r (inr h) = subst Keeps (sym h.3) (refused h.0 h.1 h.2)

-- ---- two files
module _ (join : Automaton → Automaton → Automaton) (Words : (P Q : List ℕ → Type 0) → List ℕ → Type 0)
    (fits : (a b : Automaton) → Fits a → Fits b → SameLetters a b → beyond (join a b) ≡ false → Fits (join a b))
    (lists : (a b : Automaton) → (join a b).alphabet ≡ a.alphabet)
    (accepts : (a b : Automaton) → WellFormed a → WellFormed b → SameLetters a b → (word : List ℕ) → Language (join a b) word ↔ Words (Language a) (Language b) word)
    (same : (P Q P' Q' : List ℕ → Type 0) → ((w : List ℕ) → P w ↔ P' w) → ((w : List ℕ) → Q w ↔ Q' w) → (w : List ℕ) → Words P Q w ↔ Words P' Q' w)
    (first second old : List ℕ) where
  abbrev all : List ℕ
  all = letters_of first second

  -- the automata of the files, and over the letters of both
  abbrev a : Automaton
  a = automaton_of first

  abbrev b : Automaton
  b = automaton_of second

  abbrev x : Automaton
  x = join_of join first second

  abbrev cs : List (Type 0 × ℕ × ℕ)
  cs = join_conditions first second x (length old)

  -- each test of the answer decides its condition
  tests-decide : Decide (join_refusals first second x (length old)) cs
  unfolding join_refusals
  tests-decide = (
    fault_decided first _,
    (fault_decided second _, (less-decided 64 (length all) _ _, (beyond-decided x, (less-decided (length old) (length (bytes_of x)) _ _, tt)))),
  )

  -- none holds where nothing is to be refused
  none : NoneHolds cs ↔ (ValidPair first second × (¬ Beyond x) × (length (bytes_of x) ≤ length old))
  none = (
    λ h.
        let u = at_least 0 (fault_of first) h.0 in
        let v = at_least 0 (fault_of second) h.1.0 in
        (record { first_valid = omega arith; second_valid = omega arith; few_letters = at_least 64 (length all) h.1.1.0 }, h.1.1.1.0, at_least (length old) (length (bytes_of x)) h.1.1.1.1.0),
    λ p. (λ h. omega (arith, p.0.first_valid), (λ h. omega (arith, p.0.second_valid), (λ h. omega (arith, p.0.few_letters), (p.1, (λ h. omega (arith, p.2), tt))))),
  )

  -- the joined file
  file : (ValidPair first second × (¬ Beyond x) × (length (bytes_of x) ≤ length old)) → FileOf x all (Words (Language a) (Language b)) (length (bytes_of x)) old (bytes_of x ++ drop (length (bytes_of x)) old)
  unfolding with_letters
  file p =
      let u = no_fault first p.0.first_valid in
      let v = no_fault second p.0.second_valid in
      let over = (apart-over (record { first = u.1; second = v.1; few = p.0.few_letters })).lettered in
      let f = over.fits₁ in
      let g = over.fits₂ in
      let own₁ = relettered-language a (valid-fits first u.0 u.1).well_formed all (first-inside a.alphabet b.alphabet) in
      let own₂ = relettered-language b (valid-fits second v.0 v.1).well_formed all (second-inside a.alphabet b.alphabet) in
      stands x all (Words (Language a) (Language b)) old (lists (relettered all a) (relettered all b))
      (λ word. iff-trans (accepts (relettered all a) (relettered all b) f.well_formed g.well_formed refl word) (same _ _ _ _ own₁ own₂ word))
      (fits (relettered all a) (relettered all b) f g refl (not_beyond x p.1))

  pub two-joined : let r = joined_of join first second (length old) in JoinPromised join Words first second old (output_of r (bytes_of (join_of join first second)) old) (told r)
  unfolding joined_of
  two-joined = kept cs (ValidPair first second) x all (Words (Language a) (Language b)) old none file (joined_of join first second (length old)) (refused-or_not refusal (Ok (length (bytes_of x))) (join_refusals first second x (length old)) cs tests-decide)

-- ---- one file
module _ (file old : List ℕ) where
  abbrev closed : Automaton
  closed = closure (automaton_of file)

  abbrev conditions : List (Type 0 × ℕ × ℕ)
  conditions = close_conditions file closed (length old)

  -- each test of the answer decides its condition
  close_decide : Decide (close_refusals file (length old)) conditions
  unfolding close_refusals
  close_decide = (fault_decided file _, (beyond-decided closed, (less-decided (length old) (length (bytes_of closed)) _ _, tt)))

  -- none holds where nothing is to be refused
  none-holds : NoneHolds conditions ↔ ((fault_of file ≡ 0) × (¬ Beyond closed) × (length (bytes_of closed) ≤ length old))
  none-holds = (
    λ h. let u = at_least 0 (fault_of file) h.0 in (omega arith, h.1.0, at_least (length old) (length (bytes_of closed)) h.1.1.0),
    λ p. (λ h. omega (arith, p.0), (p.1, (λ h. omega (arith, p.2), tt))),
  )

  closed-lists : closed.alphabet ≡ (automaton_of file).alphabet
  unfolding closure
  closed-lists = refl

  pub one-closed : let r = closed_of file (length old) in ClosurePromised file old (output_of r (bytes_of (closure (automaton_of file))) old) (told r)
  unfolding closed_of
  one-closed =
      kept conditions (fault_of file ≡ 0) closed (automaton_of file).alphabet _ old none-holds
      (λ p.
      let v = no_fault file p.0 in
      let f = valid-fits file v.0 v.1 in
      stands closed (automaton_of file).alphabet _ old closed-lists (closing (automaton_of file) f.well_formed) (closure-fits (automaton_of file) f (not_beyond closed p.1)))
      (closed_of file (length old))
      (refused-or_not refusal (Ok (length (bytes_of closed))) (close_refusals file (length old)) conditions close_decide)
